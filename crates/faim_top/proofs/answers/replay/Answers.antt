use Rattle.std.proofs.Common.{ℕ, List, subst}
use Rattle.faim_top.specs.declared.query.Query.TheVariants.{Replay}
use Rattle.faim_top.specs.Ends.{Answers}
use Rattle.faim_top.proofs.WholeScripts.{replayed}
use Rattle.faim_top.proofs.answers.replay.Goals as goal

pub returns-clause-answer : goal.returns-clause-answer
returns-clause-answer g c =
    let status = c.in_ok-reported.field-0.1 in
    let bytes = c.in_ok-reported.field-0.0.items in
    let P : List ℕ → Type 0 = λ t. Answers Replay t status bytes in
    replayed _ _ c.in-Ok.text status bytes c.in-Ok.ensures.all.0 c.in-Ok.ensures.all.1 (subst P c.as_slice.ensures c.in_ok-reported.ensures)
