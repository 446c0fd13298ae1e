-- Whole runs: one event after another.
use Rattle.std.specs.Prelude.{◌≡◌, ℕ, List, [], ◌∷◌, ◌++◌}
use Rattle.link_frames.specs.Frames.{Content as Frame}
use Rattle.host_ledger.specs.declared.entries.Entry.{Entry}
use Rattle.bank_books.specs.declared.entries.BankEntry.{BankEntry}
use Rattle.world_events.specs.declared.acts.Event.{Event}
use Rattle.world_events.specs.declared.outcomes.Outcome.{Outcome}
use Rattle.world_model.specs.Worlds.{World}
use Rattle.world_model.specs.WorldSteps.{WorldStep}

-- these events bring these things about, one after another, and the world is this one after them
abbrev pub Run : World → List Event → List Outcome → World → Type 0
Run w [] [] last = last ≡ w
Run w (event ∷ events) (x ∷ xs) last = (next : World) × WorldStep w event x next × Run next events xs last
Run w [] (x ∷ xs) last = ⊥
Run w (event ∷ events) [] last = ⊥

-- nothing of what one world has is lost or changed in the other: its configuration and banks, the entries of its host and of
-- each bank, and the frames that were sent
pub record IsGrownFrom (w grown : World) : Type 0 where
  pub config : grown.config ≡ w.config
  pub banks : grown.banks ≡ w.banks
  pub entries : (newer : List Entry) × (grown.entries ≡ newer ++ w.entries)
  pub books : (e : List ℕ) → (newer : List BankEntry) × (grown.books e ≡ newer ++ w.books e)
  pub to_host : (later : List Frame) × (grown.to_host ≡ w.to_host ++ later)
  pub from_host : (later : List Frame) × (grown.from_host ≡ w.from_host ++ later)
