-- What a site in memory comes back with is what a stop may leave.
use Rattle.std.proofs.Common.{◌≡◌, ℕ, ◌%◌, ◌≤◌, ◌==◌, Bool, true, false, List, [], ◌∷◌, length, replicate, sym, ◌∙◌, ap, refl, cond, arith}
use Rattle.std.proofs.lemmas.List.{length-replicate, take_all}
use Rattle.site_core.specs.declared.past.Call.{Call}
use Rattle.site_core.specs.declared.past.Call.TheVariants as stored
use Rattle.site_core.specs.declared.patch.Patch.{Patch}
use Rattle.site_core.specs.Image.{put, Torn}
use Rattle.site_core.specs.Log.{Act, reads, firm, LeavesImage}
use Rattle.site_core.specs.Log.Act.{Asked, Wrote, WriteFailed, Synced, SyncFailed, Sent, SendFailed, Restarted}
use Rattle.site_core.specs.Memory.{acts_of, patches, filled_all, torn_up, IsPlain}
use Rattle.site_core.specs.Tears.{pending, dropped, completed, marked, after_stop}
use Rattle.site_core.proofs.Images.{put_long, torn_within}
use Rattle.site_core.proofs.Marks.{marked_log}
use Rattle.site_core.proofs.Patches.{undone_log}

module _ (filler : ℕ) (f : List ℕ → List ℕ) (few : (bytes : List ℕ) → length (f bytes) ≤ length bytes) where
  firm-pending : (log : List Act) → firm log ≤ length (pending filler f log)
  firm-pending [] = omega arith
  firm-pending (Synced ∷ log) = omega arith
  firm-pending (Restarted image ∷ log) = omega arith
  firm-pending (Asked ∷ log) = firm-pending log
  firm-pending (Wrote at bytes ∷ log) = omega (arith, firm-pending log, put_long filler (pending filler f log) at (f bytes))
  firm-pending (WriteFailed at bytes found ∷ log) = omega (arith, firm-pending log, put_long filler (pending filler f log) at (f bytes))
  firm-pending (SyncFailed ∷ log) = firm-pending log
  firm-pending (Sent frame ∷ log) = firm-pending log
  firm-pending (SendFailed frame kept ∷ log) = firm-pending log

  torn_f : (image : List ℕ) (at : ℕ) (bytes : List ℕ) (far : ℕ) → far ≤ length image → Torn at (length bytes) far image (put filler image at (f bytes))
  torn_f image at bytes far le = torn_within filler image at (f bytes) (length bytes) far (few bytes) le

  -- the pending bytes, as f makes them
  leaves_pending : (log : List Act) → LeavesImage log (pending filler f log)
  leaves_pending [] = refl
  leaves_pending (Synced ∷ log) = refl
  leaves_pending (Restarted image ∷ log) = refl
  leaves_pending (Asked ∷ log) = leaves_pending log
  leaves_pending (Wrote at bytes ∷ log) = (pending filler f log, leaves_pending log, torn_f (pending filler f log) at bytes (firm log) (firm-pending log))
  leaves_pending (WriteFailed at bytes found ∷ log) = (pending filler f log, leaves_pending log, torn_f (pending filler f log) at bytes (firm log) (firm-pending log))
  leaves_pending (SyncFailed ∷ log) = leaves_pending log
  leaves_pending (Sent frame ∷ log) = leaves_pending log
  leaves_pending (SendFailed frame kept ∷ log) = leaves_pending log

leaves_chosen : (a b : Bool) (x y z : List ℕ) (log : List Act) → LeavesImage log x → LeavesImage log y → LeavesImage log z → LeavesImage log (cond a x (cond b y z))
leaves_chosen true b x y z log p q r = p
leaves_chosen false true x y z log p q r = q
leaves_chosen false false x y z log p q r = r

-- whatever the tear, the image is one that a stop may leave
pub leaves_after_stop : (tear : ℕ) (log : List Act) → LeavesImage log (after_stop tear log)
leaves_after_stop tear log =
    leaves_chosen (tear == 0) (tear == 1) (dropped log) (completed log) (marked (tear % 256) log) log
    (leaves_pending 0 (λ bytes. []) (λ bytes. omega arith) log)
    (leaves_pending 0 (λ bytes. bytes) (λ bytes. omega arith) log)
    (leaves_pending (tear % 256) (λ bytes. replicate (length bytes) (tear % 256)) (λ bytes. omega (arith, length-replicate {A = ℕ} (length bytes) (tear % 256))) log)

-- a site in memory reads as each write was given
pub plain_acts : (calls : List Call) (frames : List (List ℕ)) → IsPlain (acts_of calls frames)
plain_acts [] frames = tt
plain_acts (stored.Asked ∷ calls) frames = plain_acts calls frames
plain_acts (stored.Wrote at bytes ∷ calls) frames = plain_acts calls frames
plain_acts (stored.Torn at bytes ∷ calls) frames = (take_all (length bytes) bytes (omega arith), plain_acts calls frames)
plain_acts (stored.Synced ∷ calls) frames = plain_acts calls frames
plain_acts (stored.Sent ∷ calls) (f ∷ frames) = plain_acts calls frames
plain_acts (stored.Sent ∷ calls) [] = plain_acts calls []
plain_acts (stored.Kept ∷ calls) (f ∷ frames) = plain_acts calls frames
plain_acts (stored.Kept ∷ calls) [] = plain_acts calls []
plain_acts (stored.Lost frame ∷ calls) frames = plain_acts calls frames
plain_acts (stored.Restarted tear ∷ calls) frames = plain_acts calls frames

completed_reads : (log : List Act) → IsPlain log → completed log ≡ reads log
completed_reads [] plain = refl
completed_reads (Synced ∷ log) plain = refl
completed_reads (Restarted image ∷ log) plain = refl
completed_reads (Wrote at bytes ∷ log) plain = ap (λ (l : List ℕ). put 0 l at bytes) (completed_reads log plain)
completed_reads (WriteFailed at bytes found ∷ log) plain = ap (λ (l : List ℕ). put 0 l at bytes) (completed_reads log plain.1) ∙ ap (put 0 (reads log) at) (sym plain.0)
completed_reads (Asked ∷ log) plain = completed_reads log plain
completed_reads (SyncFailed ∷ log) plain = completed_reads log plain
completed_reads (Sent frame ∷ log) plain = completed_reads log plain
completed_reads (SendFailed frame kept ∷ log) plain = completed_reads log plain

-- what the tear makes of the image that reads is what the log says
pub after_tear : (tear : ℕ) (log : List Act) (ps : List Patch) (image : List ℕ) → ps ≡ patches log → image ≡ reads log → IsPlain log → torn_up tear ps image ≡ after_stop tear log
after_tear tear log ps image p i plain =
    ap (λ (l : List Patch). torn_up tear l image) p
    ∙ ap (λ (l : List ℕ). torn_up tear (patches log) l) i
    ∙ ap (λ (l : List ℕ). cond (tear == 0) l (cond (tear == 1) (reads log) (filled_all (tear % 256) (patches log) (reads log)))) (undone_log log)
    ∙ ap (λ (l : List ℕ). cond (tear == 0) (dropped log) (cond (tear == 1) l (filled_all (tear % 256) (patches log) (reads log)))) (sym (completed_reads log plain))
    ∙ ap (λ (l : List ℕ). cond (tear == 0) (dropped log) (cond (tear == 1) (completed log) l)) (marked_log (tear % 256) log plain)

-- where no write is pending the log makes of a stop what reads
module _ (filler : ℕ) (f : List ℕ → List ℕ) where
  pending_none : (log : List Act) → patches log ≡ [] → pending filler f log ≡ reads log
  pending_none [] none = refl
  pending_none (Synced ∷ log) none = refl
  pending_none (Restarted image ∷ log) none = refl
  pending_none (Wrote at bytes ∷ log) none = cc
  pending_none (WriteFailed at bytes found ∷ log) none = cc
  pending_none (Asked ∷ log) none = pending_none log none
  pending_none (SyncFailed ∷ log) none = pending_none log none
  pending_none (Sent frame ∷ log) none = pending_none log none
  pending_none (SendFailed frame kept ∷ log) none = pending_none log none

all_one : (a b : Bool) (x y z w : List ℕ) → x ≡ w → y ≡ w → z ≡ w → cond a x (cond b y z) ≡ w
all_one true b x y z w p q r = p
all_one false true x y z w p q r = q
all_one false false x y z w p q r = r

pub after_none : (tear : ℕ) (log : List Act) → patches log ≡ [] → after_stop tear log ≡ reads log
after_none tear log none =
    all_one (tear == 0) (tear == 1) (dropped log) (completed log) (marked (tear % 256) log) (reads log)
    (pending_none 0 (λ bytes. []) log none)
    (pending_none 0 (λ bytes. bytes) log none)
    (pending_none (tear % 256) (λ bytes. replicate (length bytes) (tear % 256)) log none)
