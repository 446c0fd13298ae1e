-- What a site tells of itself, and how device calls change it.
use Rattle.std.specs.Prelude.{◌≡◌, ◌⊎◌, ◌↔◌, ℕ, ◌+◌, ◌-◌, ◌^◌, ◌≤◌, ◌<◌, min, List, [], ◌∷◌, ◌++◌, length, take, drop, Bool, false, IsTrue, MatchBool, Option, Some, None, Result, OnOk, OnErr, MatchResult, is_ok}
use Rattle.site_core.specs.Counts.{Rose}
use Rattle.site_core.specs.Log.{Act, okays, LeavesImage, NothingPending}
use Rattle.site_core.specs.Log.Act.{Asked, Wrote, WriteFailed, Synced, SyncFailed, Sent, SendFailed, Restarted}

pub record Told : Type 0 where
  -- what the calls and restarts did since the site was empty, the newest first; a failed call may leave nothing here
  pub log : List Act
  -- how many device calls were made, failed ones too
  pub calls : ℕ
  -- the newest device call failed
  pub failed : Bool
  -- how many stops were reached
  pub stops : ℕ
  -- how many device calls are left to the armed stop; 0 where none is armed
  pub armed : ℕ
  pub stopped : Bool
  -- how many calls found no memory in the site itself; each of them failed
  pub lacks : ℕ
  -- how many calls failed for neither reason, of the disk and of the line
  pub unarmed_disk : ℕ
  pub unarmed_line : ℕ

-- size, read, write and sync are calls of the disk, send is one of the line
pub data Part : Type 0 where
  Disk : Part
  Line : Part

abbrev pub unarmed : Part → Told → ℕ
unarmed Disk site = site.unarmed_disk
unarmed Line site = site.unarmed_line

abbrev pub other : Part → Part
other Disk = Line
other Line = Disk

-- a site that tells goes on telling
abbrev pub Goes : Option Told → Option Told → (Told → Told → Type 0) → Type 0
Goes None new P = Unit {0}
Goes (Some old) None P = ⊥
Goes (Some old) (Some new) P = P old new

-- what device calls together say of the numbers
pub record Counted (old new : Told) : Type 0 where
  pub calls : old.calls ≤ new.calls
  -- no call leaves more than one act in the log
  pub traced : length new.log + old.calls ≤ length old.log + new.calls
  pub armed : new.armed ≡ old.armed - (new.calls - old.calls)
  -- a stop is reached exactly where no call is left to it
  pub stops : new.stops + min 1 new.armed ≡ old.stops + min 1 old.armed
  pub stopped : IsTrue new.stopped ↔ (IsTrue old.stopped ⊎ (old.stops < new.stops))
  pub lacks : old.lacks ≤ new.lacks
  pub unarmed_disk : old.unarmed_disk ≤ new.unarmed_disk
  pub unarmed_line : old.unarmed_line ≤ new.unarmed_line

-- no stop was reached and nothing failed
pub record Calm (old new : Told) : Type 0 where
  pub stops : new.stops ≡ old.stops
  pub lacks : new.lacks ≡ old.lacks
  pub unarmed_disk : new.unarmed_disk ≡ old.unarmed_disk
  pub unarmed_line : new.unarmed_line ≡ old.unarmed_line

-- the site was stopped before, or a stop was reached, or it found no memory
abbrev pub IsDisturbed : Told → Told → Type 0
IsDisturbed old new = IsTrue old.stopped ⊎ ((old.stops < new.stops) ⊎ Rose old.lacks new.lacks)

-- why calls of one part failed
abbrev pub HasReason : Part → Told → Told → Type 0
HasReason part old new = IsDisturbed old new ⊎ Rose (unarmed part old) (unarmed part new)

-- no more calls can be counted
abbrev pub IsFull : Told → Type 0
IsFull site = site.calls ≡ 2 ^ 64 - 1

-- a call failed since the site was stopped before
abbrev pub FailsStopped : Part → Told → Told → Type 0
FailsStopped part old new = IsTrue old.stopped × (new.stops ≡ old.stops) × (new.lacks ≡ old.lacks) × (unarmed part new ≡ unarmed part old)

-- a call failed since it reached the stop; it may lack memory for its act, and then it leaves none
abbrev pub FailsAtStop : Part → Told → Told → Type 0
FailsAtStop part old new = (old.stopped ≡ false) × (old.stops < new.stops) × ((new.lacks ≡ old.lacks) ⊎ ((new.log ≡ old.log) × Rose old.lacks new.lacks)) × (unarmed part new ≡ unarmed part old)

-- a call failed since the site found no memory
abbrev pub FailsLacking : Part → Told → Told → Type 0
FailsLacking part old new = (old.stopped ≡ false) × (new.stops ≡ old.stops) × Rose old.lacks new.lacks × (unarmed part new ≡ unarmed part old)

-- a call failed for none of these reasons, or since no more calls can be counted
abbrev pub FailsUnarmed : Part → Told → Told → Type 0
FailsUnarmed part old new = ((old.stopped ≡ false) ⊎ IsFull old) × (new.stops ≡ old.stops) × (new.lacks ≡ old.lacks) × Rose (unarmed part old) (unarmed part new)

-- why one call failed: the count of its reason rises, and those of the others stay
abbrev pub HasOneReason : Part → Told → Told → Type 0
HasOneReason part old new = (FailsStopped part old new ⊎ (FailsAtStop part old new ⊎ FailsLacking part old new)) ⊎ FailsUnarmed part old new

-- device calls that did what P says; either all went through, or the last failed and no other did
pub record Ran (whole : Bool) (P : List Act → Type 0) (old new : Told) : Type 0 where
  pub acts : List Act
  pub grew : new.log ≡ acts ++ old.log
  pub are : P acts
  pub counted : Counted old new
  -- those that went through didn't reach the armed stop
  pub unreached : (old.armed ≡ 0) ⊎ (okays acts < old.armed)
  -- the calls made are those that went through, and one more where one failed
  pub ended : MatchBool whole ((new.calls ≡ old.calls + okays acts) × Calm old new) (IsTrue new.failed × (new.calls ≡ min (old.calls + okays acts + 1) (2 ^ 64 - 1)))

-- one device call of a part
pub record CallsOnce {T E : Type 0} (part : Part) (result : Result T E) (P : List Act → Type 0) (old new : Told) : Type 0 where
  pub ran : Ran (is_ok result) P old new
  pub once : new.calls ≡ min (old.calls + 1) (2 ^ 64 - 1)
  -- a site that is stopped fails each call
  pub running : OnOk result (old.stopped ≡ false × (new.failed ≡ false))
  pub reason : OnErr result (HasOneReason part old new)
  pub kept : unarmed (other part) new ≡ unarmed (other part) old
  -- it is counted no more, and leaves nothing but that it failed
  pub full : IsFull old → (new.log ≡ old.log) × FailsUnarmed part old new

-- a question that went through leaves its trace, and one that failed none
abbrev pub Asks : {T E : Type 0} → Result T E → Told → Told → Type 0
Asks result = CallsOnce Disk result (λ acts. MatchResult result (λ _. acts ≡ Asked ∷ []) (λ _. acts ≡ []))

-- at Ok the bytes are written; else nothing is, or the range reads as any bytes
abbrev pub IsWrite : {T E : Type 0} → ℕ → List ℕ → Result T E → List Act → Type 0
IsWrite at bytes result acts = MatchResult result
    (λ _. acts ≡ Wrote at bytes ∷ [])
    (λ _. (acts ≡ []) ⊎ ((found : List ℕ) × (acts ≡ WriteFailed at bytes found ∷ [])))

abbrev pub Writes : {T E : Type 0} → ℕ → List ℕ → Result T E → Told → Told → Type 0
Writes at bytes result = CallsOnce Disk result (IsWrite at bytes result)

abbrev pub IsSync : {T E : Type 0} → Result T E → List Act → Type 0
IsSync result acts = MatchResult result (λ _. acts ≡ Synced ∷ []) (λ _. (acts ≡ []) ⊎ (acts ≡ SyncFailed ∷ []))

-- only a sync at Ok makes anything stable
abbrev pub Syncs : {T E : Type 0} → Result T E → Told → Told → Type 0
Syncs result = CallsOnce Disk result (IsSync result)

abbrev pub IsSend : {T E : Type 0} → List ℕ → Result T E → List Act → Type 0
IsSend frame result acts = MatchResult result
    (λ _. acts ≡ Sent frame ∷ [])
    (λ _. (acts ≡ []) ⊎ ((kept : Bool) × (acts ≡ SendFailed frame kept ∷ [])))

-- at Ok the frame is sent; else it is in or out
abbrev pub Sends : {T E : Type 0} → List ℕ → Result T E → Told → Told → Type 0
Sends frame result = CallsOnce Line result (IsSend frame result)

-- a read from a place of an image gives as much as there is and the buffer takes
pub record IsRead (image : List ℕ) (at n : ℕ) (buf : List ℕ) : Type 0 where
  pub count : n ≡ min (length buf) (length image - at)
  pub bytes : take n buf ≡ take n (drop at image)

-- how often the calls of a part failed: where that rose there is a reason
abbrev pub Because : Part → ℕ → ℕ → Told → Told → Type 0
Because part before now old new = before < now → HasReason part old new

-- a stop now, or the end of the present one: one of the images that it may leave is there, and nothing is pending
pub record Restarts (old new : Told) : Type 0 where
  pub image : List ℕ
  pub allowed : LeavesImage old.log image
  pub log : (new.log ≡ Restarted image ∷ old.log) ⊎ ((new.log ≡ old.log) × NothingPending old.log)
  pub others : new ≡ record old { log = new.log; armed = 0; stopped = false }
