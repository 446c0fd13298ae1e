use Rattle.std.proofs.Common.{◌∙◌, ap, length, reverse}
use Rattle.host_index.specs.Index.{Index, outputs_to}
use Rattle.faim_model.specs.Outputs.{outputs}
use Rattle.host_core.specs.State.{State}
use Rattle.host_core.proofs.Given.{total_to}
use Rattle.host_core.proofs.state.HostState.outputs.Goals as goal

pub returns : goal.returns
returns c =
    c.total.ensures
    ∙ ap (λ (i : Index). length (outputs_to c.args.dest i.outputs)) c.self.invariant.2.places
    ∙ total_to c.self.inside.config (reverse c.self.inside.entries.items) c.args.dest
    ∙ ap (λ (s : State). length (outputs s.config s.entries c.args.dest)) c.self.view_is
