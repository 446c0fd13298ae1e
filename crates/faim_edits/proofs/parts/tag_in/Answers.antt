use Rattle.std.proofs.Common.{◌≡◌, ℕ, List, Option, Some, None, Bor, rules}
use Rattle.std.specs.Prelude.{◌==◌, IfSome}
use Rattle.std.specs.List.{find}
use Rattle.std.specs.Option.{option_copied}
use Rattle.faim_tags.specs.Spelling.{Tag}
use Rattle.faim_message.proofs.Finds.{found_number}
use Rattle.faim_edits.proofs.parts.tag_in.Goals as goal

-- what is found has the number
numbered : (n : ℕ) (tags : List Tag) (r : Option (Bor Tag)) → option_copied r ≡ find (λ v. v.no == n) tags → IfSome r (λ v. v.now.no ≡ n)
numbered n tags None e = tt
numbered n tags (Some v) e = found_number n tags v.now (let back : find (λ w. w.no == n) tags ≡ Some v.now = cc in back)

pub returns-clause-number : goal.returns-clause-number
returns-clause-number c =
    let found : option_copied c.get.result ≡ find (λ v. v.no == c.args.number) c.args.m.now.tags = search rules in
    numbered c.args.number c.args.m.now.tags c.get.result found
