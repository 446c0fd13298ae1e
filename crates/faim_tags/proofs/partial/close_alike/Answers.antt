use Rattle.std.proofs.Common.{◌≡◌, ℕ, true, get_or, sym, ap, subst, ◌∙◌, arith}
use Rattle.faim_base.specs.Tags.{is_tag_number}
use Rattle.faim_tags.specs.Spelling.{braced}
use Rattle.faim_tags.proofs.PartialLemmas.{alike_on}
use Rattle.faim_tags.proofs.partial.close_alike.Goals as goal

pub returns-then-byte_of-b-clause-step : goal.returns-then-byte_of-b-clause-step
returns-then-byte_of-b-clause-step c ns p =
    let like = c.args.like in
    let count = c.args.count in
    let P : ℕ → Type 0 = λ n. is_tag_number n ≡ true in
    alike_on ns like count c.args.b c.with_number.result p (omega arith) (omega arith) (subst P c.get.ensures.value c.get.ensures.listed)
    (ap (λ (n : ℕ). get_or (braced n) count 0) (sym c.get.ensures.value) ∙ sym c.byte_of.ensures ∙ c.if-byte_of-b.true) (c.with_number.ensures.part ns) (c.with_number.ensures.whole ns)
