-- The device calls of an append, and what a stop at each moment of it may leave.
use Rattle.std.specs.Prelude.{◌≡◌, ◌⊎◌, ℕ, ◌+◌, ◌-◌, ◌≤◌, List, [], ◌∷◌, ◌++◌, length, true, false, Result, Ok, Err, OnOk}
use Rattle.site_core.specs.Log.{Act, reads, sent, okays, LeavesImage, Left, NothingPending}
use Rattle.site_core.specs.Log.Act.{Wrote, WriteFailed, Synced, SyncFailed}
use Rattle.site_core.specs.Told.{Told, Ran}
use Rattle.torn_journal.specs.declared.faults.AppendFault.{AppendFault}
use Rattle.torn_journal.specs.declared.faults.AppendFault.TheVariants.{SiteFault, JournalFull}
use Rattle.torn_journal.specs.Journal.{IsJournal, open_gate, tail_of}

-- bytes written and made stable; the newest act first
abbrev pub secured : ℕ → List ℕ → List Act
secured at bytes = Synced ∷ Wrote at bytes ∷ []

-- the same, broken off by a call that failed
pub data IsBrokenOff (at : ℕ) (bytes : List ℕ) : List Act → Type 0 where
  unwritten : IsBrokenOff at bytes []
  torn : (found : List ℕ) → IsBrokenOff at bytes (WriteFailed at bytes found ∷ [])
  written : IsBrokenOff at bytes (Wrote at bytes ∷ [])
  unsynced : IsBrokenOff at bytes (SyncFailed ∷ Wrote at bytes ∷ [])

-- the record goes after the tail gate, and then the gate is opened
abbrev pub IsAppend : ℕ → List ℕ → List Act → Type 0
IsAppend tail framed acts = acts ≡ secured (tail - 1) (open_gate ∷ []) ++ secured tail framed

abbrev pub IsAppendBrokenOff : ℕ → List ℕ → List Act → Type 0
IsAppendBrokenOff tail framed acts = IsBrokenOff tail framed acts ⊎ ((last : List Act) × IsBrokenOff (tail - 1) (open_gate ∷ []) last × (acts ≡ last ++ secured tail framed))

abbrev pub Secures : {E : Type 0} → ℕ → List ℕ → Result (Unit {0}) E → Told → Told → Type 0
Secures at bytes (Ok done) old new = Ran true (λ acts. acts ≡ secured at bytes) old new
Secures at bytes (Err fault) old new = Ran false (IsBrokenOff at bytes) old new

abbrev pub Adds : {E : Type 0} → ℕ → List ℕ → Result (Unit {0}) E → Told → Told → Type 0
Adds tail framed (Ok done) old new = Ran true (IsAppend tail framed) old new
Adds tail framed (Err fault) old new = Ran false (IsAppendBrokenOff tail framed) old new

-- at Ok four calls; at a fault of the site none after the one that failed; a full journal makes none
abbrev pub AppendCalls : ℕ → List ℕ → Result (Unit {0}) AppendFault → Told → Told → Type 0
AppendCalls tail framed (Ok done) old new = Ran true (IsAppend tail framed) old new
AppendCalls tail framed (Err SiteFault) old new = Ran false (IsAppendBrokenOff tail framed) old new
AppendCalls tail framed (Err (JournalFull t n)) old new = new ≡ old

-- the payloads as they were, or with the new one, and this only after three calls
abbrev pub IsBeforeOrAfter : List (List ℕ) → List ℕ → Told → Told → List ℕ → Type 0
IsBeforeOrAfter payloads payload old new image = IsJournal image payloads ⊎ (IsJournal image (payloads ++ payload ∷ []) × (old.calls + 3 ≤ new.calls))

-- what an append says of each moment since it began, and of its end
pub record KeepsOrAdds {T E : Type 0} (result : Result T E) (payloads : List (List ℕ)) (payload : List ℕ) (next : ℕ) (old new : Told) : Type 0 where
  pub each : (image : List ℕ) (frames : List (List ℕ)) → Left (length old.log) new.log image frames → IsBeforeOrAfter payloads payload old new image × (frames ≡ sent old.log)
  pub pending : OnOk result (NothingPending new.log)
  pub done : OnOk result (IsJournal (reads new.log) (payloads ++ payload ∷ []))
  pub place : OnOk result (next ≡ tail_of (payloads ++ payload ∷ []))

-- where nothing is pending, the image is a journal, and the tail is its own
abbrev pub Appends : {T E : Type 0} → Result T E → ℕ → ℕ → List ℕ → Told → Told → Type 0
Appends result tail next payload old new =
    (payloads : List (List ℕ)) → NothingPending old.log → IsJournal (reads old.log) payloads → tail ≡ tail_of payloads → KeepsOrAdds result payloads payload next old new

-- a stop at this call of an append, counted from 1: those before it went through, and it was the last that was made
pub record IsStoppedAt (call tail : ℕ) (framed : List ℕ) (old new : Told) : Type 0 where
  pub acts : List Act
  pub grew : new.log ≡ acts ++ old.log
  pub are : IsAppendBrokenOff tail framed acts
  pub through : call ≡ okays acts + 1
  pub most : call ≤ 4
  pub calls : new.calls ≡ old.calls + call

-- a stop now may leave a journal of these payloads
abbrev pub MayStand : List Act → List (List ℕ) → Type 0
MayStand log payloads = (image : List ℕ) × LeavesImage log image × IsJournal image payloads
