-- A log of device calls, the newest first, and what it says of the image, of what was sent, and of stops.
use Rattle.std.specs.Prelude.{◌≡◌, ◌⊎◌, ℕ, ◌+◌, ◌≤◌, List, [], ◌∷◌, ◌++◌, length, take, Bool, if◌then◌else◌}
use Rattle.site_core.specs.Image.{put, Torn}

-- what one device call did, or a restart
pub data Act : Type 0 where
  -- a size or a read, which changes nothing
  Asked : Act
  Wrote : (at : ℕ) (bytes : List ℕ) → Act
  -- a write that failed; its range reads as the bytes that were found, and after these as before
  WriteFailed : (at : ℕ) (bytes found : List ℕ) → Act
  Synced : Act
  SyncFailed : Act
  Sent : (frame : List ℕ) → Act
  -- a send that failed; its frame is in or out for good
  SendFailed : (frame : List ℕ) (kept : Bool) → Act
  Restarted : (image : List ℕ) → Act

-- the image as it reads
abbrev pub reads : List Act → List ℕ
reads [] = []
reads (Wrote at bytes ∷ log) = put 0 (reads log) at bytes
reads (WriteFailed at bytes found ∷ log) = put 0 (reads log) at (take (length bytes) found)
reads (Restarted image ∷ log) = image
reads (Asked ∷ log) = reads log
reads (Synced ∷ log) = reads log
reads (SyncFailed ∷ log) = reads log
reads (Sent frame ∷ log) = reads log
reads (SendFailed frame kept ∷ log) = reads log

-- the frames sent, the first of them first
abbrev pub sent : List Act → List (List ℕ)
sent [] = []
sent (Sent frame ∷ log) = sent log ++ frame ∷ []
sent (SendFailed frame kept ∷ log) = if kept then sent log ++ frame ∷ [] else sent log
sent (Asked ∷ log) = sent log
sent (Wrote at bytes ∷ log) = sent log
sent (WriteFailed at bytes found ∷ log) = sent log
sent (Synced ∷ log) = sent log
sent (SyncFailed ∷ log) = sent log
sent (Restarted image ∷ log) = sent log

-- the size at the last sync that succeeded, or restart
abbrev pub firm : List Act → ℕ
firm [] = 0
firm (Synced ∷ log) = length (reads log)
firm (Restarted image ∷ log) = length image
firm (Asked ∷ log) = firm log
firm (Wrote at bytes ∷ log) = firm log
firm (WriteFailed at bytes found ∷ log) = firm log
firm (SyncFailed ∷ log) = firm log
firm (Sent frame ∷ log) = firm log
firm (SendFailed frame kept ∷ log) = firm log

-- how many of the calls went through
abbrev pub okays : List Act → ℕ
okays [] = 0
okays (Asked ∷ log) = okays log + 1
okays (Wrote at bytes ∷ log) = okays log + 1
okays (Synced ∷ log) = okays log + 1
okays (Sent frame ∷ log) = okays log + 1
okays (WriteFailed at bytes found ∷ log) = okays log
okays (SyncFailed ∷ log) = okays log
okays (SendFailed frame kept ∷ log) = okays log
okays (Restarted image ∷ log) = okays log

-- a stop now may leave this image
abbrev pub LeavesImage : List Act → List ℕ → Type 0
LeavesImage [] image = image ≡ []
LeavesImage (Wrote at bytes ∷ log) image = (before : List ℕ) × LeavesImage log before × Torn at (length bytes) (firm log) before image
LeavesImage (WriteFailed at bytes found ∷ log) image = (before : List ℕ) × LeavesImage log before × Torn at (length bytes) (firm log) before image
LeavesImage (Synced ∷ log) image = image ≡ reads log
LeavesImage (Restarted now ∷ log) image = image ≡ now
LeavesImage (Asked ∷ log) image = LeavesImage log image
LeavesImage (SyncFailed ∷ log) image = LeavesImage log image
LeavesImage (Sent frame ∷ log) image = LeavesImage log image
LeavesImage (SendFailed frame kept ∷ log) image = LeavesImage log image

-- a stop now may leave this image and these frames
abbrev pub Leaves : List Act → List ℕ → List (List ℕ) → Type 0
Leaves log image frames = LeavesImage log image × (frames ≡ sent log)

-- a stop during a send may leave its frame out or in
abbrev pub MaySend : List Act → List ℕ → List ℕ → List (List ℕ) → Type 0
MaySend log frame image frames = LeavesImage log image × ((frames ≡ sent log) ⊎ (frames ≡ sent log ++ frame ∷ []))

-- a stop inside the newest call might have left these, beside what it may leave right before and right after it
abbrev pub Within : List Act → List ℕ → List (List ℕ) → Type 0
Within [] image frames = ⊥
Within (Sent frame ∷ log) image frames = MaySend log frame image frames
Within (SendFailed frame kept ∷ log) image frames = MaySend log frame image frames
Within (Asked ∷ log) image frames = ⊥
Within (Wrote at bytes ∷ log) image frames = ⊥
Within (WriteFailed at bytes found ∷ log) image frames = ⊥
Within (Synced ∷ log) image frames = ⊥
Within (SyncFailed ∷ log) image frames = ⊥
Within (Restarted now ∷ log) image frames = ⊥

-- a stop at some moment from time t on might have left these; the time is the length of the log
abbrev pub Left : ℕ → List Act → List ℕ → List (List ℕ) → Type 0
Left t [] image frames = Leaves [] image frames
Left t (act ∷ log) image frames = Leaves (act ∷ log) image frames ⊎ ((t ≤ length log) × (Within (act ∷ log) image frames ⊎ Left t log image frames))

-- a stop leaves what a read gives, and that is as long as it was at the last sync or restart
pub record NothingPending (log : List Act) : Type 0 where
  pub image : (image : List ℕ) → LeavesImage log image → image ≡ reads log
  pub size : firm log ≡ length (reads log)
