use Rattle.std.proofs.Common.{◌≡◌, ℕ, Bool, Option, Some, sym, ap, subst, ◌∙◌, arith, take}
use Rattle.std.specs.Prelude.{IfSome, None, if◌then◌else◌}
use Rattle.faim_tags.specs.Parts.{FollowsBrace}
use Rattle.faim_tags.proofs.NumberLemmas.{known_new}
use Rattle.faim_tags.proofs.RunLemmas.{follows_brace}
use Rattle.faim_tags.proofs.number.number_after.Goals as goal

pub returns-then-is_among : goal.returns-then-is_among
returns-then-is_among c =
    let ns = c.args.numbers.now in
    let n = c.in-Some.number in
    let count = c.args.count in
    let bytes = c.args.bytes.now in
    let among = sym c.is_among.ensures ∙ c.if-is_among.true in
    let rest = ap (take 5) (sym c.after.ensures) ∙ c.in-Some.ensures in
    let listed = known_new ns n c.requires among in
    let is : c.tag_no.result ≡ Some n = c.tag_no.ensures ∙ ap (λ (t : Bool). if t then Some n else None) listed in
    let P : Option ℕ → Type 0 = λ o. IfSome o (λ m. FollowsBrace ns count bytes m) in
    subst P (sym is) (follows_brace ns count bytes n (omega arith) (omega arith) c.requires among (c.has_brace.ensures c.if-not-has_brace.false) rest)
