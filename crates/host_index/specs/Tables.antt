-- What the two tables hold, the oldest first.
use Rattle.std.specs.Prelude.{◌≡◌, ◌≤◌, ℕ, List, [], ◌∷◌, ◌++◌, map, length, IsTrue}
use Rattle.faim_base.specs.Numbers.{greatest_seq}
use Rattle.faim_base.specs.declared.ids.Imad.{Imad}
use Rattle.host_index.specs.declared.keys.ImadKey.{ImadKey}
use Rattle.host_index.specs.declared.keys.Slot.{Slot}
use Rattle.host_index.specs.declared.keys.Sent.{Sent}
use Rattle.host_index.specs.Index.{Posted, Output, outputs_to, is_above}

abbrev pub imad_of : ImadKey → Imad
imad_of k = record { date = k.date; source = k.source; seq = k.seq }

abbrev pub posted_of : ImadKey × ℕ → Posted
posted_of e = record { imad = imad_of e.0; place = e.1 }

abbrev pub output_of : Slot × Sent → Output
output_of e = record { dest = e.0.dest; at = e.1.at; place = e.1.place }

abbrev pub outputs_in : List (Slot × Sent) → List Output
outputs_in es = map output_of es

-- an output that may come after others: its number counts those of its endpoint, and its position is above theirs
pub record IsNext (before : List Output) (e : Slot × Sent) : Type 0 where
  pub number : e.0.number ≡ length (outputs_to e.0.dest before)
  pub above : IsTrue (is_above e.0.dest e.1.at before)
  pub range : e.1.at.seq ≤ greatest_seq

-- outputs of which each may come after those before it
abbrev pub AreNext : List Output → List (Slot × Sent) → Type 0
AreNext before [] = Unit {0}
AreNext before (e ∷ es) = IsNext before e × AreNext (before ++ output_of e ∷ []) es

abbrev pub AreNumbered : List (Slot × Sent) → Type 0
AreNumbered es = AreNext [] es
