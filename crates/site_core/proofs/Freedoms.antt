-- What a stop may leave, from below.
use Rattle.std.proofs.Common.{◌≡◌, ℕ, ◌≤◌, Bool, List, [], ◌∷◌, ◌++◌, length, take, refl, ◌∙◌, ap, arith, length-append, length-take}
use Rattle.std.proofs.lemmas.List.{get_or_append_left, get_or-take, take_all}
use Rattle.site_core.specs.Image.{put, Torn}
use Rattle.site_core.specs.Log.{Act, reads, firm, LeavesImage}
use Rattle.site_core.specs.Log.Act.{Asked, Wrote, WriteFailed, Synced, SyncFailed, Sent, SendFailed, Restarted}
use Rattle.site_core.specs.Pending.{PendingStays}
use Rattle.site_core.proofs.Images.{torn_within}

-- no image that may be left is shorter than the firm size
left_firm : (log : List Act) (image : List ℕ) → LeavesImage log image → firm log ≤ length image
left_firm [] image left = omega arith
left_firm (Synced ∷ log) image left = omega (arith, ap length left)
left_firm (Restarted now ∷ log) image left = omega (arith, ap length left)
left_firm (Wrote at bytes ∷ log) image left = omega (arith, left.2.long, left_firm log left.0 left.1)
left_firm (WriteFailed at bytes found ∷ log) image left = omega (arith, left.2.long, left_firm log left.0 left.1)
left_firm (Asked ∷ log) image left = left_firm log image left
left_firm (SyncFailed ∷ log) image left = left_firm log image left
left_firm (Sent frame ∷ log) image left = left_firm log image left
left_firm (SendFailed frame kept ∷ log) image left = left_firm log image left

-- a torn image with anything from the firm size on
torn_end : (at n far : ℕ) (old new more : List ℕ) → Torn at n far old new → Torn at n far old (take far new ++ more)
torn_end at n far old new more torn = record {
  long = omega (arith, torn.long, length-append (take far new) more, length-take far new);
  same = λ k lt out. get_or_append_left (take far new) more 0 k (omega (arith, lt, torn.long, length-take far new)) ∙ get_or-take far new k 0 lt ∙ torn.same k lt out;
}

-- any bytes in the range of a write, and anything from the firm size on
pub torn_write : (at : ℕ) (bytes left more : List ℕ) (log : List Act) (image : List ℕ) → LeavesImage log image → length left ≤ length bytes → (before : List ℕ) × LeavesImage log before × Torn at (length bytes) (firm log) before (take (firm log) (put 0 image at left) ++ more)
torn_write at bytes left more log image before few =
    (image, before, torn_end at (length bytes) (firm log) image (put 0 image at left) more (torn_within 0 image at left (length bytes) (firm log) few (left_firm log image before)))

pub found_reads : (at : ℕ) (bytes found : List ℕ) (log : List Act) → length found ≤ length bytes → reads (WriteFailed at bytes found ∷ log) ≡ put 0 (reads log) at found
found_reads at bytes found log few = ap (put 0 (reads log) at) (take_all (length bytes) found few)

-- a write that leaves the image as it is
untouched : (at n : ℕ) (log : List Act) (image : List ℕ) → LeavesImage log image → (before : List ℕ) × LeavesImage log before × Torn at n (firm log) before image
untouched at n log image left = (image, left, record { long = left_firm log image left; same = λ k lt out. refl })

pub stays_asked : (log : List Act) → PendingStays log (Asked ∷ log)
stays_asked log = record { image = λ image left. left; firm_size = refl }

pub stays_wrote : (at : ℕ) (bytes : List ℕ) (log : List Act) → PendingStays log (Wrote at bytes ∷ log)
stays_wrote at bytes log = record { image = untouched at (length bytes) log; firm_size = refl }

pub stays_unwritten : (at : ℕ) (bytes found : List ℕ) (log : List Act) → PendingStays log (WriteFailed at bytes found ∷ log)
stays_unwritten at bytes found log = record { image = untouched at (length bytes) log; firm_size = refl }

pub stays_unsynced : (log : List Act) → PendingStays log (SyncFailed ∷ log)
stays_unsynced log = record { image = λ image left. left; firm_size = refl }

pub stays_sent : (frame : List ℕ) (log : List Act) → PendingStays log (Sent frame ∷ log)
stays_sent frame log = record { image = λ image left. left; firm_size = refl }

pub stays_unsent : (frame : List ℕ) (kept : Bool) (log : List Act) → PendingStays log (SendFailed frame kept ∷ log)
stays_unsent frame kept log = record { image = λ image left. left; firm_size = refl }
