-- What a host keeps is what its steps make of its list.
use Rattle.std.proofs.Common.{◌≡◌, ℕ, List, [], ◌∷◌, map, refl, ap, Option, Some, None}
use Rattle.std.proofs.lemmas.List.{map-append}
use Rattle.host_ledger.specs.declared.config.Config.{Config}
use Rattle.host_ledger.specs.declared.entries.Entry.{Entry}
use Rattle.faim_model.specs.Sessions.{Arrival, recent_with}
use Rattle.faim_model.specs.Turns.{adds_to}
use Rattle.journaled_list.specs.Rules.{Listed}
use Rattle.journaled_steps.specs.Steps.{entries_with, last_after}
use Rattle.node_session.specs.Kinds.{IsFit}
use Rattle.host_session.specs.HostKind.{host_kind, step_of}

same_entries : (adds : Option Entry) (es : List Entry) → adds_to adds es ≡ entries_with adds es
same_entries None es = refl
same_entries (Some x) es = refl

same_recent : (recent : ℕ) (adds : Option Entry) → recent_with recent adds ≡ last_after recent adds
same_recent recent None = refl
same_recent recent (Some x) = refl

pub host_fit : IsFit host_kind
host_fit = record {
  list_after = λ kept a. ap (λ (es : List Entry). record { opening = kept.config; entries = es }) (same_entries (step_of kept a).adds kept.entries);
  recent_after = λ kept a. same_recent kept.recent (step_of kept a).adds;
  nothing_read = refl;
  read_on = λ arrivals a. map-append (λ (x : Arrival). x.reading) arrivals (a ∷ []);
}
