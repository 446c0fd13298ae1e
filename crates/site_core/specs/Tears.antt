-- The image that a site in memory comes back with (docs/FORMATS.md, "Tears").
use Rattle.std.specs.Prelude.{ℕ, ◌%◌, ◌==◌, List, [], ◌∷◌, length, replicate, if◌then◌else◌}
use Rattle.site_core.specs.Image.{put}
use Rattle.site_core.specs.Log.{Act, reads}
use Rattle.site_core.specs.Log.Act.{Asked, Wrote, WriteFailed, Synced, SyncFailed, Sent, SendFailed, Restarted}

-- the image at the last sync or restart with each write since, a failed one too: its bytes as f makes them, a gap filled up
abbrev pub pending : ℕ → (List ℕ → List ℕ) → List Act → List ℕ
pending filler f [] = []
pending filler f (Synced ∷ log) = reads log
pending filler f (Restarted image ∷ log) = image
pending filler f (Wrote at bytes ∷ log) = put filler (pending filler f log) at (f bytes)
pending filler f (WriteFailed at bytes found ∷ log) = put filler (pending filler f log) at (f bytes)
pending filler f (Asked ∷ log) = pending filler f log
pending filler f (SyncFailed ∷ log) = pending filler f log
pending filler f (Sent frame ∷ log) = pending filler f log
pending filler f (SendFailed frame kept ∷ log) = pending filler f log

-- no pending byte was written
abbrev pub dropped : List Act → List ℕ
dropped = pending 0 (λ bytes. [])

-- all pending bytes were written
abbrev pub completed : List Act → List ℕ
completed = pending 0 (λ bytes. bytes)

-- all pending bytes, and those of gaps, are one byte
abbrev pub marked : ℕ → List Act → List ℕ
marked mark = pending mark (λ bytes. replicate (length bytes) mark)

abbrev pub after_stop : ℕ → List Act → List ℕ
after_stop tear log = if tear == 0 then dropped log else (if tear == 1 then completed log else marked (tear % 256) log)
