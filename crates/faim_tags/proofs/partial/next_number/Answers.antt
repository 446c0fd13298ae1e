use Rattle.std.proofs.Common.{◌≡◌, ℕ, ◌+◌, ◌<◌, true, false, Bool, List, [], ◌∷◌, ◌++◌, get_or, set, take, Option, Some, None, sym, ap, subst, ◌∙◌, arith}
use Rattle.std.specs.Prelude.{MatchOption, if◌then◌else◌}
use Rattle.faim_base.specs.Tags.{is_tag_number}
use Rattle.faim_tags.specs.Spelling.{braced}
use Rattle.faim_tags.specs.Steps.{numbers_begin}
use Rattle.faim_tags.specs.Partial.{NextNumber}
use Rattle.faim_tags.proofs.PartialLemmas.{front_with, next_is, next_same}
use Rattle.faim_tags.proofs.partial.next_number.Goals as goal

pub returns-in-Some-clause-next : goal.returns-in-Some-clause-next
returns-in-Some-clause-next c known =
    let ns = c.args.numbers.now in
    let n = c.in-Some.number in
    let like = c.args.like in
    let count = c.args.count in
    let b = c.args.b in
    let front : c.before-2.result.now ≡ take count (braced like) ++ b ∷ [] =
    c.before-2.ensures ∙ ap (λ (xs : List ℕ). take (count + 1) (set xs count b)) (c.braced-front.ensures ∙ ap braced c.get-2.ensures.value) ∙ front_with like count b (omega arith) in
    let next = next_is ns like count b n c.before-2.result.now (omega arith) front c.requires c.in-Some.ensures.found.0 c.in-Some.ensures.found.1 (sym c.in-Some.ensures.any) in
    let is : c.new.result ≡ Some n = c.new.ensures ∙ ap (λ (t : Bool). if t then Some n else None) next.listed in
    let P : Option ℕ → Type 0 = λ o. MatchOption o (count < 6 → numbers_begin ns (take count (braced like) ++ b ∷ []) ≡ false) (λ m. NextNumber ns like count b m) in
    subst P (sym is) next

pub returns-then-byte_of-b-clause-next : goal.returns-then-byte_of-b-clause-next
returns-then-byte_of-b-clause-next c known =
    let like = c.args.like in
    let count = c.args.count in
    let P : ℕ → Type 0 = λ n. is_tag_number n ≡ true in
    next_same c.args.numbers.now like count c.args.b (omega arith) (subst P c.get.ensures.value c.get.ensures.listed) (known (omega arith))
    (ap (λ (n : ℕ). get_or (braced n) count 0) (sym c.get.ensures.value) ∙ sym c.byte_of.ensures ∙ c.if-byte_of-b.true)
