use Rattle.std.proofs.Common.{◌≡◌, ℕ, ◌+◌, ◌<◌, true, get_or, refl, sym, ap, subst, ◌∙◌, arith}
use Rattle.faim_base.specs.Tags.{is_tag_number}
use Rattle.faim_tags.specs.Spelling.{braced}
use Rattle.faim_tags.specs.declared.partial.TagPart.TheVariants.{Number}
use Rattle.faim_tags.proofs.PartialLemmas.{alike_on}
use Rattle.faim_tags.proofs.partial.go_on_alike.Goals as goal

pub returns-clause-on : goal.returns-clause-on
returns-clause-on c on ns p h =
    let like = c.args.like in
    let count = c.args.count.now in
    let few : count < 5 = omega (arith, c.if-count-ge5.false) in
    let P : ℕ → Type 0 = λ n. is_tag_number n ≡ true in
    alike_on ns like count c.args.b (Number like (count + 1)) p (omega (arith, c.if-count-eq0.false)) (omega (arith, few)) (subst P c.get.ensures.value c.get.ensures.listed)
    (ap (λ (n : ℕ). get_or (braced n) count 0) (sym c.get.ensures.value) ∙ sym c.byte_of.ensures ∙ c.if-byte_of-b.false) (λ lt among. (omega (arith, lt), refl, λ some. among)) (λ le. absurd (omega (arith, le, few))) h
