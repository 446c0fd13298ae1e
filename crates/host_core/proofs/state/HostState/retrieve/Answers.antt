use Rattle.std.proofs.Common.{◌≡◌, ◌∙◌, ap, subst, ℕ, List, reverse}
use Rattle.std.specs.Prelude.{IfOk}
use Rattle.host_index.specs.Index as indexed
use Rattle.host_index.specs.Index.{Index}
use Rattle.faim_model.specs.Outputs.{places_of, retrieved}
use Rattle.host_core.specs.State.{State}
use Rattle.host_core.proofs.Given.{retrieved_to}
use Rattle.host_core.proofs.state.HostState.retrieve.Goals as goal

pub returns : goal.returns
returns c =
    subst (λ (l : List ℕ). IfOk c.from.result (λ places. places ≡ l))
    (ap (λ (i : Index). indexed.places_of (indexed.retrieved c.args.dest c.args.at i.outputs)) c.self.invariant.2.places
    ∙ retrieved_to c.self.inside.config (reverse c.self.inside.entries.items) c.args.dest c.args.at
    ∙ ap (λ (s : State). places_of (retrieved s.config s.entries c.args.dest c.args.at)) c.self.view_is)
    c.from.ensures
