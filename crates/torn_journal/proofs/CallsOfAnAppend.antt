-- A write and a sync, one after the other, and two such pairs.
use Rattle.std.proofs.Common.{◌≡◌, inl, inr, ⊎_elim, ℕ, ◌-◌, List, [], ◌∷◌, ◌++◌, sym, ◌∙◌, ap, subst, true, false, Ok, Err, Result}
use Rattle.std.specs.Result.{IsErr}
use Rattle.site_core.specs.Log.{Act}
use Rattle.site_core.specs.Log.Act.{Wrote, Synced, SyncFailed}
use Rattle.site_core.specs.Told.{Told, Writes, Syncs, IsWrite, IsSync}
use Rattle.site_core.proofs.Runs.{ran_as, ran_on}
use Rattle.torn_journal.specs.Journal.{open_gate}
use Rattle.torn_journal.specs.Append.{secured, IsBrokenOff, Secures, IsAppend, IsAppendBrokenOff, Adds}
use Rattle.torn_journal.specs.Append.IsBrokenOff.{unwritten, torn, written, unsynced}

module _ {E : Type 0} (at : ℕ) (bytes : List ℕ) where
  pub write_failed : (e : E) (result : Result (Unit {0}) E) → IsErr result → (old new : Told) → Writes {T = Unit {0}} at bytes (Err e) old new → Secures at bytes result old new
  write_failed e (Ok u) err old new call = absurd cc
  write_failed e (Err d) err old new call =
      ran_as false (IsWrite {T = Unit {0}} {E = E} at bytes (Err e)) (IsBrokenOff at bytes) old new
      (λ x p. ⊎_elim (λ none. subst (IsBrokenOff at bytes) (sym none) unwritten) (λ some. subst (IsBrokenOff at bytes) (sym some.1) (torn some.0)) p)
      call.ran

  after_write : (e : E) (x y : List Act) → x ≡ Wrote at bytes ∷ [] → IsSync {T = Unit {0}} (Err e) y → IsBrokenOff at bytes (y ++ x)
  after_write e x y p q = ⊎_elim
      (λ none. subst (IsBrokenOff at bytes) (sym (ap (λ (l : List Act). l ++ x) none ∙ p)) written)
      (λ failed. subst (IsBrokenOff at bytes) (sym (ap (λ (l : List Act). l ++ x) failed ∙ ap (λ (l : List Act). SyncFailed ∷ l) p)) unsynced)
      q

  pub then_synced : (u : Unit {0}) (result : Result (Unit {0}) E) (a b c : Told) → Writes {E = E} at bytes (Ok u) a b → Syncs result b c → Secures at bytes result a c
  then_synced u (Ok v) a b c write sync =
      ran_on true (IsWrite {E = E} at bytes (Ok u)) (IsSync {E = E} (Ok v)) (λ acts. acts ≡ secured at bytes) a b c
      (λ x y p q. ap (λ (l : List Act). l ++ x) q ∙ ap (λ (l : List Act). Synced ∷ l) p)
      write.ran sync.ran
  then_synced u (Err e) a b c write sync =
      ran_on false (IsWrite {E = E} at bytes (Ok u)) (IsSync {T = Unit {0}} (Err e)) (IsBrokenOff at bytes) a b c
      (after_write e)
      write.ran sync.ran

-- the record did not go through
pub record_failed : {E F : Type 0} (tail : ℕ) (framed : List ℕ) (e : E) (result : Result (Unit {0}) F) → IsErr result → (old new : Told) → Secures tail framed (Err e) old new → Adds tail framed result old new
record_failed tail framed e (Ok u) err old new first = absurd cc
record_failed tail framed e (Err d) err old new first = ran_as false (IsBrokenOff tail framed) (IsAppendBrokenOff tail framed) old new (λ x p. inl p) first

-- the record, and then the gate
pub then_opened : {E : Type 0} (tail : ℕ) (framed : List ℕ) (u : Unit {0}) (result : Result (Unit {0}) E) (a b c : Told) → Secures {E = E} tail framed (Ok u) a b → Secures (tail - 1) (open_gate ∷ []) result b c → Adds tail framed result a c
then_opened tail framed u (Ok v) a b c first second =
    ran_on true (λ acts. acts ≡ secured tail framed) (λ acts. acts ≡ secured (tail - 1) (open_gate ∷ [])) (IsAppend tail framed) a b c
    (λ x y p q. ap (λ (l : List Act). l ++ x) q ∙ ap (λ (l : List Act). secured (tail - 1) (open_gate ∷ []) ++ l) p)
    first second
then_opened tail framed u (Err e) a b c first second =
    ran_on false (λ acts. acts ≡ secured tail framed) (IsBrokenOff (tail - 1) (open_gate ∷ [])) (IsAppendBrokenOff tail framed) a b c
    (λ x y p q. inr (y, q, ap (λ (l : List Act). y ++ l) p))
    first second
