use Rattle.std.proofs.Common.{ℕ, ◌+◌, List, ap, subst, arith, length}
use Rattle.std.proofs.lemmas.List.{length-drop}
use Rattle.faim_tags.specs.Partial.{Reaches}
use Rattle.faim_tags.specs.declared.partial.TagPart.TheVariants.{Elements}
use Rattle.faim_tags.proofs.RunLemmas.{reads_fixed, reaches_fixed, reaches_more}
use Rattle.faim_tags.proofs.partial.read_elements.Goals as goal

pub returns-then-not-whole-clause-read : goal.returns-then-not-whole-clause-read
returns-then-not-whole-clause-read c ns p h =
    reaches_fixed ns c.args.no c.sized_layout-layout.result.now.runs.now c.args.fixed c.args.stars c.args.part c.args.bytes.now c.run_from-run.result.0 p c.sized_layout-layout.ensures.runs c.run_from-run.ensures.run (c.run_from-run.ensures.short c.if-not-whole.true) h

pub returns-clause-within : goal.returns-clause-within
returns-clause-within c = omega (arith, c.run_from-run.ensures.within, c.read_stars-last.ensures.within, ap length c.after.ensures, length-drop c.run_from-run.result.0 c.args.bytes.now)

pub returns-clause-read : goal.returns-clause-read
returns-clause-read c ns p h =
    let bytes = c.args.bytes.now in
    let a = c.run_from-run.result.0 in
    let r = c.read_stars-last.result in
    reaches_more ns p bytes a r.1 (Elements c.args.no (c.args.fixed + a) c.args.stars c.args.part) r.0 c.run_from-run.ensures.within
    (reads_fixed ns c.args.no c.sized_layout-layout.result.now.runs.now c.args.fixed c.args.stars c.args.part bytes a p c.sized_layout-layout.ensures.runs c.run_from-run.ensures.run h) (λ q stands.
    let P : List ℕ → Type 0 = λ xs. Reaches ns q xs r.1 r.0 in
    subst P c.after.ensures (c.read_stars-last.ensures.read ns q stands))
