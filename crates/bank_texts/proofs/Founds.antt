-- A tag that is looked for by its number.
use Rattle.std.proofs.Common.{◌≡◌, ℕ, List, Option, Some, None, Bor, ap, ◌∙◌}
use Rattle.std.specs.Prelude.{◌==◌, IfSome, is_some}
use Rattle.std.specs.List.{find}
use Rattle.std.specs.Option.{option_copied}
use Rattle.faim_tags.specs.Reading.{is_among}
use Rattle.faim_tags.specs.Spelling.{Tag}
use Rattle.faim_message.specs.Spelling.{numbers}
use Rattle.faim_message.proofs.Finds.{finds_among, found_number}

-- what is found has the number
pub numbered : (n : ℕ) (tags : List Tag) (r : Option (Bor Tag)) → option_copied r ≡ find (λ v. v.no == n) tags → IfSome r (λ v. v.now.no ≡ n)
numbered n tags None e = tt
numbered n tags (Some v) e = found_number n tags v.now (let back : find (λ w. w.no == n) tags ≡ Some v.now = cc in back)

-- one is found exactly where the number is there
pub is_there : (n : ℕ) (tags : List Tag) (r : Option (Bor Tag)) → option_copied r ≡ find (λ v. v.no == n) tags → is_some r ≡ is_among (numbers tags) n
is_there n tags None e = ap is_some e ∙ finds_among n tags
is_there n tags (Some v) e = ap is_some e ∙ finds_among n tags
