use Rattle.std.proofs.Common.{◌≡◌, ℕ, ◌+◌, List, get_or, drop, Some, sym, ap, subst, ◌∙◌, arith}
use Rattle.std.proofs.lemmas.List.{length-drop, get_or-drop}
use Rattle.faim_tags.specs.Steps.{step}
use Rattle.faim_tags.specs.Partial.{StandsFor, BothStand, Reaches}
use Rattle.faim_tags.specs.declared.partial.TagPart.{TagPart}
use Rattle.faim_tags.proofs.RunLemmas.{reads_one, reads_more, reaches_more}
use Rattle.faim_tags.proofs.partial.number_by_steps.Goals as goal

pub returns-in-Elements-clause-read : goal.returns-in-Elements-clause-read
returns-in-Elements-clause-read c p h =
    let ns = c.args.numbers.now in
    let r = c.read_elements-last.result in
    reaches_more ns p c.args.bytes.now c.loop-place.place r.1 c.loop-place.reached r.0 c.loop-place.invariant.within (c.loop-place.invariant.read p h) (λ q stands.
    let P : List ℕ → Type 0 = λ xs. Reaches ns q xs r.1 r.0 in
    let Q : TagPart → Type 0 = λ t. StandsFor ns t q in
    subst P c.after.ensures (c.read_elements-last.ensures.read ns q (subst Q c.in-Elements.is stands)))

pub loop-place-preserved : goal.loop-place-preserved
loop-place-preserved c = record {
  within = omega arith;
  read = λ p h.
      let ns = c.args.numbers.now in
      let bytes = c.args.bytes.now in
      let place = c.loop-place.place in
      let next = c.in-Some.next in
      let same : place ≡ place + 0 = omega arith in
      let first : get_or bytes place 0 ≡ get_or (drop place bytes) 0 0 = ap (λ (j : ℕ). get_or bytes j 0) same ∙ sym (get_or-drop place bytes 0 0) in
      reads_more ns p bytes place 1 c.loop-place.reached next (c.loop-place.invariant.read p h) (λ q stands.
      let P : ℕ → Type 0 = λ b. BothStand ns (Some next) (step ns q b) in
      reads_one ns q (drop place bytes) next (omega (arith, length-drop place bytes)) (subst P first (c.in-Some.ensures q stands)));
}
