-- A list that was made is ready.
use Rattle.std.proofs.Common.{◌≡◌, ℕ, List, [], ◌∷◌, refl}
use Rattle.site_core.specs.Told.{Told}
use Rattle.torn_journal.specs.Create.{HasCreated}
use Rattle.journaled_list.specs.Rules.{Rules, Listed}
use Rattle.journaled_list.specs.Making.{Makes}

pub made : {O E : Type 0} (rules : Rules O E) (opening : List ℕ) (list : Listed O E) (tail : ℕ) → rules.IsOpening list.opening → opening ≡ rules.opening_bytes list.opening → list.entries ≡ []
    → (x y : Told) → HasCreated opening tail x y → Makes rules opening (record { list = list; last = 0; tail = tail }) x y
made rules opening list tail fit is empty x y created = record {
  made = created;
  ready = record {
    stands = record { payloads = opening ∷ []; journal = created.journal; stand = (fit, is, (empty, refl)) };
    pending = created.pending;
    place = created.place;
  };
}
