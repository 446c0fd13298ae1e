-- The device calls of an append and of the sends behind it, and what a stop at each moment of them may leave.
use Rattle.std.specs.Prelude.{◌≡◌, ◌⊎◌, ℕ, ◌+◌, ◌-◌, ◌<◌, ◌≤◌, List, [], ◌∷◌, ◌++◌, length, take, Bool, true, false, if◌then◌else◌, Result, Ok, Err}
use Rattle.site_core.specs.Counts.{Rose}
use Rattle.site_core.specs.Log.{Act, reads, sent, Left, NothingPending}
use Rattle.site_core.specs.Told.{Told, Ran, HasReason}
use Rattle.site_core.specs.Told.Part.{Disk, Line}
use Rattle.torn_journal.specs.Append.{secured, IsAppendBrokenOff}
use Rattle.torn_journal.specs.Journal.{IsJournal, open_gate, tail_of}
use Rattle.store_forward.specs.declared.faults.ForwardFault.{ForwardFault}
use Rattle.store_forward.specs.declared.faults.ForwardFault.TheVariants.{SiteFault, LineFault, JournalFull}
use Rattle.store_forward.specs.Sending.{sends, AreBrokenOff}

-- the four calls of an append that went through
abbrev pub stored : ℕ → List ℕ → List Act
stored tail framed = secured (tail - 1) (open_gate ∷ []) ++ secured tail framed

-- these four, and then sends of which the last failed
abbrev pub IsForwardBrokenOff : ℕ → List ℕ → List (List ℕ) → List Act → Type 0
IsForwardBrokenOff tail framed frames acts = (last : List Act) × AreBrokenOff frames last × (acts ≡ last ++ stored tail framed)

-- no call comes after one that failed, and a full journal makes none
abbrev pub StoreCalls : ℕ → List ℕ → List (List ℕ) → Result (Unit {0}) ForwardFault → Told → Told → Type 0
StoreCalls tail framed frames (Ok done) old new = Ran true (λ acts. acts ≡ sends frames ++ stored tail framed) old new
StoreCalls tail framed frames (Err SiteFault) old new = Ran false (IsAppendBrokenOff tail framed) old new
StoreCalls tail framed frames (Err LineFault) old new = Ran false (IsForwardBrokenOff tail framed frames) old new
StoreCalls tail framed frames (Err (JournalFull t n)) old new = new ≡ old

-- all frames at Ok; at a fault of the line those before the one that failed, with it or without it; else none
abbrev pub StoreSends : List (List ℕ) → Result (Unit {0}) ForwardFault → Told → Told → Type 0
StoreSends frames (Ok done) old new = sent new.log ≡ sent old.log ++ frames
StoreSends frames (Err LineFault) old new =
    (n : ℕ) × (n < length frames) × ((sent new.log ≡ sent old.log ++ take n frames) ⊎ (sent new.log ≡ sent old.log ++ take (n + 1) frames))
StoreSends frames other old new = sent new.log ≡ sent old.log

-- why a call of that part failed
abbrev pub StoreReason : Result (Unit {0}) ForwardFault → Told → Told → Type 0
StoreReason (Err SiteFault) old new = HasReason Disk old new
StoreReason (Err LineFault) old new = HasReason Line old new
StoreReason other old new = Unit {0}

-- the count of a part's failures rises with a fault of that part, and stays at each other answer
abbrev pub DiskCount : Result (Unit {0}) ForwardFault → ℕ → ℕ → Type 0
DiskCount (Err SiteFault) before now = (before ≤ now) × Rose before now
DiskCount other before now = now ≡ before

abbrev pub LineCount : Result (Unit {0}) ForwardFault → ℕ → ℕ → Type 0
LineCount (Err LineFault) before now = (before ≤ now) × Rose before now
LineCount other before now = now ≡ before

-- the first where the record is stored for good, and else the second
abbrev pub IfStored : Result (Unit {0}) ForwardFault → Type 0 → Type 0 → Type 0
IfStored (Ok done) P Q = P
IfStored (Err LineFault) P Q = P
IfStored (Err SiteFault) P Q = Q
IfStored (Err (JournalFull t n)) P Q = Q

-- the payloads as they were and nothing sent; or, after three calls, with the new one, and after four and n the first n frames sent
abbrev pub IsStoreMoment : List (List ℕ) → List ℕ → List (List ℕ) → Told → Told → List ℕ → List (List ℕ) → Type 0
IsStoreMoment payloads payload frames old new image found =
    (IsJournal image payloads × (found ≡ sent old.log))
    ⊎ (IsJournal image (payloads ++ payload ∷ []) × (old.calls + 3 ≤ new.calls)
    × ((n : ℕ) × (n ≤ length frames) × (n ≤ new.calls - (old.calls + 4)) × (found ≡ sent old.log ++ take n frames)))

-- a stop leaves these payloads and no others, and the tail is theirs
pub record HasStored (tail : ℕ) (payloads : List (List ℕ)) (new : Told) : Type 0 where
  pub place : tail ≡ tail_of payloads
  pub pending : NothingPending new.log
  pub journal : IsJournal (reads new.log) payloads

-- what is said of each moment since the beginning, and of the end
pub record StoresTo (result : Result (Unit {0}) ForwardFault) (before after : ℕ) (payloads : List (List ℕ)) (payload : List ℕ) (frames : List (List ℕ)) (old new : Told) : Type 0 where
  pub each : (image : List ℕ) (found : List (List ℕ)) → Left (length old.log) new.log image found → IsStoreMoment payloads payload frames old new image found
  pub added : IfStored result (HasStored after (payloads ++ payload ∷ []) new) (after ≡ before)

-- where nothing is pending, the image is a journal, and the tail is its own
abbrev pub Stores : Result (Unit {0}) ForwardFault → ℕ → ℕ → List ℕ → List (List ℕ) → Told → Told → Type 0
Stores result before after payload frames old new =
    (payloads : List (List ℕ)) → NothingPending old.log → IsJournal (reads old.log) payloads → before ≡ tail_of payloads → StoresTo result before after payloads payload frames old new

-- the payloads with the new one, or without it
abbrev pub kept_of : Bool → List (List ℕ) → List ℕ → List (List ℕ)
kept_of kept payloads payload = if kept then payloads ++ payload ∷ [] else payloads

-- a stop at call 1 or 2 keeps nothing; at 3 or 4 nothing is sent; at 4 + n the record is kept, and n frames are sent or n - 1
abbrev pub ByCall : ℕ → Bool → ℕ → List (List ℕ) → Type 0
ByCall call kept count frames =
    ((1 ≤ call) × (call ≤ 2) × (kept ≡ false) × (count ≡ 0))
    ⊎ (((3 ≤ call) × (call ≤ 4) × (count ≡ 0))
    ⊎ ((kept ≡ true) × ((n : ℕ) × (1 ≤ n) × (n ≤ length frames) × (call ≡ 4 + n) × ((count + 1 ≡ n) ⊎ (count ≡ n)))))

-- a stop at this call: what may be left then, and what was sent
pub record IsStoreStopped (call : ℕ) (payloads : List (List ℕ)) (payload : List ℕ) (frames : List (List ℕ)) (old new : Told) (image : List ℕ) : Type 0 where
  pub kept : Bool
  pub count : ℕ
  pub by_call : ByCall call kept count frames
  pub journal : IsJournal image (kept_of kept payloads payload)
  pub frames_sent : sent new.log ≡ sent old.log ++ take count frames
