use Rattle.std.proofs.Common.{◌∙◌, ap, filter, length, reverse}
use Rattle.host_index.specs.Index as indexed
use Rattle.host_index.specs.Index.{Index, outputs_to}
use Rattle.faim_model.specs.Outputs.{count_under, outputs}
use Rattle.host_core.specs.State.{State}
use Rattle.host_core.proofs.Given.{counted_to}
use Rattle.host_core.proofs.state.HostState.count.Goals as goal

pub returns : goal.returns
returns c =
    c.count.ensures
    ∙ ap (λ (i : Index). length (filter (indexed.is_under c.args.date) (outputs_to c.args.dest i.outputs))) c.self.invariant.2.places
    ∙ counted_to c.self.inside.config (reverse c.self.inside.entries.items) c.args.dest c.args.date
    ∙ ap (λ (s : State). count_under c.args.date (outputs s.config s.entries c.args.dest)) c.self.view_is
