-- The moments of device calls.
use Rattle.std.proofs.Common.{◌≡◌, ◌⊎◌, inl, inr, ⊎_elim, ℕ, ◌≤◌, Bool, List, [], ◌∷◌, ◌++◌, length, take, refl, ◌∙◌, arith, length-append, length-take}
use Rattle.site_core.specs.Log.{Act, reads, sent, firm, Leaves, LeavesImage, Within, Left, NothingPending}
use Rattle.site_core.specs.Log.Act.{Asked, Wrote, WriteFailed, Synced, SyncFailed, Sent, SendFailed, Restarted}
use Rattle.site_core.proofs.Images.{put_long, torn_within}

-- of the present moment nothing holds but that a stop now may leave it
pub only_now : (log : List Act) (t : ℕ) (image : List ℕ) (frames : List (List ℕ)) → length log ≤ t → Left t log image frames → Leaves log image frames
only_now [] t image frames le left = left
only_now (act ∷ log) t image frames le left = ⊎_elim (λ now. now) (λ before. absurd (omega (arith, le, before.0))) left

-- what a stop may leave now is left since each earlier time
pub counts_now : (log : List Act) (t : ℕ) (image : List ℕ) (frames : List (List ℕ)) → Leaves log image frames → Left t log image frames
counts_now [] t image frames now = now
counts_now (act ∷ log) t image frames now = inl now

-- what was left since an earlier time was left before a moment or since it
pub left_split : (acts log : List Act) (t : ℕ) (image : List ℕ) (frames : List (List ℕ)) → t ≤ length log → Left t (acts ++ log) image frames → Left t log image frames ⊎ Left (length log) (acts ++ log) image frames
left_split [] log t image frames le left = inl left
left_split (act ∷ acts) log t image frames le left =
    let long : length log ≤ length (acts ++ log) = omega (arith, length-append acts log) in
    ⊎_elim (λ now. inr (inl now)) (λ before. ⊎_elim (λ within. inr (inr (long, inl within))) (λ older. ⊎_elim (λ l. inl l) (λ l. inr (inr (long, inr l))) (left_split acts log t image frames le older)) before.1) left

-- one call more that sends nothing
pub quiet_on : (t : ℕ) (act : Act) (log : List Act) (fs : List (List ℕ)) (P : List ℕ → Type 0)
    → ((image : List ℕ) (frames : List (List ℕ)) → Within (act ∷ log) image frames → ⊥)
    → sent (act ∷ log) ≡ fs
    → ((image : List ℕ) → LeavesImage (act ∷ log) image → P image)
    → ((image : List ℕ) (frames : List (List ℕ)) → Left t log image frames → P image × (frames ≡ fs))
    → (image : List ℕ) (frames : List (List ℕ)) → Left t (act ∷ log) image frames → P image × (frames ≡ fs)
quiet_on t act log fs P quiet same here before image frames left =
    ⊎_elim (λ now. (here image now.0, now.1 ∙ same)) (λ older. ⊎_elim (λ within. absurd (quiet image frames within)) (λ l. before image frames l) older.1) left

-- the image that reads is no shorter than at the last sync, and a stop may always leave it
pub firm-reads : (log : List Act) → firm log ≤ length (reads log)
firm-reads [] = omega arith
firm-reads (Synced ∷ log) = omega arith
firm-reads (Restarted image ∷ log) = omega arith
firm-reads (Asked ∷ log) = firm-reads log
firm-reads (Wrote at bytes ∷ log) = omega (arith, firm-reads log, put_long 0 (reads log) at bytes)
firm-reads (WriteFailed at bytes found ∷ log) = omega (arith, firm-reads log, put_long 0 (reads log) at (take (length bytes) found))
firm-reads (SyncFailed ∷ log) = firm-reads log
firm-reads (Sent frame ∷ log) = firm-reads log
firm-reads (SendFailed frame kept ∷ log) = firm-reads log

pub leaves_reads : (log : List Act) → LeavesImage log (reads log)
leaves_reads [] = refl
leaves_reads (Synced ∷ log) = refl
leaves_reads (Restarted image ∷ log) = refl
leaves_reads (Asked ∷ log) = leaves_reads log
leaves_reads (Wrote at bytes ∷ log) = (reads log, leaves_reads log, torn_within 0 (reads log) at bytes (length bytes) (firm log) (omega arith) (firm-reads log))
leaves_reads (WriteFailed at bytes found ∷ log) = (reads log, leaves_reads log, torn_within 0 (reads log) at (take (length bytes) found) (length bytes) (firm log) (omega (arith, length-take (length bytes) found)) (firm-reads log))
leaves_reads (SyncFailed ∷ log) = leaves_reads log
leaves_reads (Sent frame ∷ log) = leaves_reads log
leaves_reads (SendFailed frame kept ∷ log) = leaves_reads log

-- after a sync or a restart nothing is pending
pub synced : (log : List Act) → NothingPending (Synced ∷ log)
synced log = record { image = λ image now. now; size = refl }

pub restarted : (now : List ℕ) (log : List Act) → NothingPending (Restarted now ∷ log)
restarted now log = record { image = λ image left. left; size = refl }

-- a question keeps it so, and so do a failed sync and a send
pub still_asked : (log : List Act) → NothingPending log → NothingPending (Asked ∷ log)
still_asked log p = record { image = p.image; size = p.size }

pub still_unsynced : (log : List Act) → NothingPending log → NothingPending (SyncFailed ∷ log)
still_unsynced log p = record { image = p.image; size = p.size }

pub still_sent : (frame : List ℕ) (log : List Act) → NothingPending log → NothingPending (Sent frame ∷ log)
still_sent frame log p = record { image = p.image; size = p.size }

pub still_unsent : (frame : List ℕ) (kept : Bool) (log : List Act) → NothingPending log → NothingPending (SendFailed frame kept ∷ log)
still_unsent frame kept log p = record { image = p.image; size = p.size }

-- where nothing is pending only what reads can be left
pub only_reads : (log : List Act) (image : List ℕ) (frames : List (List ℕ)) → NothingPending log → Left (length log) log image frames → (image ≡ reads log) × (frames ≡ sent log)
only_reads log image frames p left = let now = only_now log (length log) image frames (omega arith) left in (p.image image now.0, now.1)
