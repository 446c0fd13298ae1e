use Rattle.std.proofs.Common.{ℕ, ◌-◌, List, length, ap, subst, arith}
use Rattle.std.proofs.lemmas.List.{length-drop}
use Rattle.faim_tags.specs.Partial.{Reaches}
use Rattle.faim_tags.specs.declared.partial.TagPart.TheVariants.{Elements}
use Rattle.faim_tags.proofs.RunLemmas.{reads_number, reaches_more}
use Rattle.faim_tags.proofs.partial.read_from_number.Goals as goal

pub returns-in-Some-clause-within : goal.returns-in-Some-clause-within
returns-in-Some-clause-within c = omega (arith, c.in-Some.ensures.few, c.in-Some.ensures.within, c.read_elements-last.ensures.within, ap length c.after.ensures, length-drop (6 - c.args.count) c.args.bytes.now)

pub returns-in-Some-clause-read : goal.returns-in-Some-clause-read
returns-in-Some-clause-read c p h =
    let ns = c.args.numbers.now in
    let bytes = c.args.bytes.now in
    let a = 6 - c.args.count in
    let n = c.in-Some.no in
    let r = c.read_elements-last.result in
    reaches_more ns p bytes a r.1 (Elements n 0 0 0) r.0 c.in-Some.ensures.within (reads_number ns c.args.like c.args.count bytes n p c.in-Some.ensures h) (λ q stands.
    let P : List ℕ → Type 0 = λ xs. Reaches ns q xs r.1 r.0 in
    subst P c.after.ensures (c.read_elements-last.ensures.read ns q stands))
