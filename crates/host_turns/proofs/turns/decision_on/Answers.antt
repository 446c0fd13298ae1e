-- The slice of the body is the body.
use Rattle.std.proofs.Common.{ℕ, List, ap, ◌∙◌}
use Rattle.faim_model.specs.Verdicts.{judged}
use Rattle.host_turns.proofs.turns.decision_on.Goals as goal

pub returns : goal.returns
returns c =
    c.decide.ensures
    ∙ ap (λ (b : List ℕ). judged c.args.state.now.config c.args.state.now.entries c.args.line c.args.moment c.args.message.now.head b c.args.message.now.failed) c.as_slice.ensures
