use Rattle.std.proofs.Common.{◌∙◌, ap, reverse}
use Rattle.host_index.specs.Index as indexed
use Rattle.host_index.specs.Index.{Index}
use Rattle.faim_model.specs.Verdicts.{has_imad, place_of}
use Rattle.host_core.specs.State.{State}
use Rattle.host_core.proofs.Known.{found_in}
use Rattle.host_core.proofs.state.HostState.find.Goals as goal

pub returns : goal.returns
returns c =
    c.find.ensures
    ∙ ap (λ (i : Index). indexed.place_of c.args.imad.now i.posted) c.self.invariant.2.places
    ∙ found_in c.self.inside.config (reverse c.self.inside.entries.items) c.args.imad.now c.self.invariant.1
    ∙ ap (λ (s : State). place_of (has_imad c.args.imad.now) s.entries) c.self.view_is
