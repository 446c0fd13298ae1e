-- Counts of faults, where one call passes on the end of another.
use Rattle.std.proofs.Common.{◌≡◌, ℕ}
use Rattle.std.specs.Prelude.{Result, Ok, Err, IsErr}
use Rattle.faim_top.specs.Seen.{Seen, CountsFaults}

-- two faults that come together have one count
pub same_faults : {fault other : Type 0} {count : Seen ℕ} → (fault → other) → (other → fault) → CountsFaults fault count → CountsFaults other count
same_faults forth back counted = record {
  later = counted.later;
  failed = λ o. counted.failed (back o);
  kept = λ none. counted.kept (λ f. none (forth f));
}

-- what went well didn't fail
pub ok_no_err : {T E : Type 0} (r : Result T E) (x : T) → r ≡ Ok x → IsErr r → ⊥
ok_no_err (Ok y) x is failed = cc
ok_no_err (Err e) x is failed = cc
