-- A sync and questions leave the image and what was sent as they were, at each moment.
use Rattle.std.proofs.Common.{◌≡◌, ◌⊎◌, inl, inr, ⊎_elim, ℕ, zero, suc, ◌+◌, ◌*◌, ◌≤◌, Bool, true, false, List, [], ◌∷◌, ◌++◌, length, replicate, refl, sym, ◌∙◌, ap, subst, Err, arith, length-append}
use Rattle.std.proofs.lemmas.List.{length-replicate}
use Rattle.site_core.specs.Log.{Act, reads, sent, okays, LeavesImage, Left, NothingPending}
use Rattle.site_core.specs.Log.Act.{Asked, Synced, SyncFailed}
use Rattle.site_core.specs.Told.{Told, Syncs, IsSync}
use Rattle.site_core.proofs.Moments.{only_reads, quiet_on, synced, still_asked, still_unsynced}
use Rattle.site_core.proofs.Runs.{ran_as}
use Rattle.torn_journal.specs.Journal.{IsJournal}
use Rattle.torn_journal.specs.Reading.{Seeks}
use Rattle.torn_journal.specs.Resume.{IsLooking, HasLooked}
use Rattle.torn_journal.proofs.Questions.{IsSeeking, sought_log, reads_asked, sent_asked}

leaves_asked : (n : ℕ) (log : List Act) (image : List ℕ) → LeavesImage (replicate n Asked ++ log) image → LeavesImage log image
leaves_asked zero log image left = left
leaves_asked (suc n) log image left = leaves_asked n log image left

still_all_asked : (n : ℕ) (log : List Act) → NothingPending log → NothingPending (replicate n Asked ++ log)
still_all_asked zero log pending = pending
still_all_asked (suc n) log pending = still_asked (replicate n Asked ++ log) (still_all_asked n log pending)

-- questions leave at each moment what the moments before them do
quiet_asked : (n t : ℕ) (log : List Act) (R : List ℕ) (S : List (List ℕ)) → ((image : List ℕ) → LeavesImage log image → image ≡ R) → sent log ≡ S
    → ((image : List ℕ) (frames : List (List ℕ)) → Left t log image frames → (image ≡ R) × (frames ≡ S))
    → (image : List ℕ) (frames : List (List ℕ)) → Left t (replicate n Asked ++ log) image frames → (image ≡ R) × (frames ≡ S)
quiet_asked zero t log R S here same before = before
quiet_asked (suc n) t log R S here same before =
    quiet_on t Asked (replicate n Asked ++ log) S (λ image. image ≡ R) (λ image frames w. w) (sent_asked n log ∙ same)
    (λ image left. here image (leaves_asked n log image left))
    (quiet_asked n t log R S here same before)

module _ (log now : List Act) (n : ℕ) (is : now ≡ replicate n Asked ++ (Synced ∷ log)) where
  same_image : reads now ≡ reads log
  same_image = ap reads is ∙ reads_asked n (Synced ∷ log)

  same_sent : sent now ≡ sent log
  same_sent = ap sent is ∙ sent_asked n (Synced ∷ log)

  settled : NothingPending now
  settled = subst NothingPending (sym is) (still_all_asked n (Synced ∷ log) (synced log))

  quiet_all : NothingPending log → (image : List ℕ) (frames : List (List ℕ)) → Left (length log) now image frames → (image ≡ reads log) × (frames ≡ sent log)
  quiet_all pending image frames left =
      quiet_asked n (length log) (Synced ∷ log) (reads log) (sent log) (λ j l. l) refl
      (quiet_on (length log) Synced log (sent log) (λ j. j ≡ reads log) (λ j f w. w) refl (λ j l. l) (λ j f l. only_reads log j f pending l))
      image frames (subst (λ (l : List Act). Left (length log) l image frames) is left)

  after_sync : (image : List ℕ) (frames : List (List ℕ)) → Left (length log + 1) now image frames → (image ≡ reads log) × (frames ≡ sent log)
  after_sync image frames left =
      let t : length log + 1 ≡ length (Synced ∷ log) = omega arith in
      quiet_asked n (length (Synced ∷ log)) (Synced ∷ log) (reads log) (sent log) (λ j l. l) refl
      (λ j f l. only_reads (Synced ∷ log) j f (synced log) l)
      image frames (subst (λ k. Left k (replicate n Asked ++ (Synced ∷ log)) image frames) t (subst (λ (l : List Act). Left (length log + 1) l image frames) is left))

okays_sought : (n : ℕ) → okays (replicate n Asked ++ Synced ∷ []) ≡ n + 1
okays_sought zero = refl
okays_sought (suc n) = omega (arith, okays_sought n)

-- a sync and at most two questions for each record, and three more
pub looked : (whole : Bool) (most : ℕ) (x z : Told) → Seeks whole most x z → ((ps : List (List ℕ)) → IsJournal (reads x.log) ps → most ≤ 2 * length ps + 3) → HasLooked whole x z
looked true most x z seeks few =
    let is = sought_log true most x z seeks in
    record {
      ran = ran_as true (IsSeeking most) (IsLooking true) x z (λ acts p. (p.0, p.2)) seeks;
      few = λ ps journal. omega (arith, few ps journal, seeks.ended.0, seeks.are.1, ap okays seeks.are.2, okays_sought seeks.are.0);
      image = same_image x.log z.log seeks.are.0 is;
      frames = same_sent x.log z.log seeks.are.0 is;
      pending = settled x.log z.log seeks.are.0 is;
      quiet = quiet_all x.log z.log seeks.are.0 is;
      after = λ any. after_sync x.log z.log seeks.are.0 is;
    }
looked false most x z seeks few =
    let is = sought_log false most x z seeks in
    record {
      ran = ran_as false (IsSeeking most) (IsLooking false) x z (λ acts p. inl (p.0, p.2)) seeks;
      few = λ ps journal. omega (arith, few ps journal, seeks.ended.1, seeks.are.1, ap okays seeks.are.2, okays_sought seeks.are.0);
      image = same_image x.log z.log seeks.are.0 is;
      frames = same_sent x.log z.log seeks.are.0 is;
      pending = λ before. settled x.log z.log seeks.are.0 is;
      quiet = quiet_all x.log z.log seeks.are.0 is;
      after = λ any. after_sync x.log z.log seeks.are.0 is;
    }

-- a sync that failed and left nothing, or its trace
module _ (log now : List Act) (acts : List Act) (grew : now ≡ acts ++ log) (are : (acts ≡ []) ⊎ (acts ≡ SyncFailed ∷ [])) where
  kept : (P : List Act → Type 0) → P log → P (SyncFailed ∷ log) → P now
  kept P none failed = subst P (sym grew) (⊎_elim (λ e. subst (λ (l : List Act). P (l ++ log)) (sym e) none) (λ e. subst (λ (l : List Act). P (l ++ log)) (sym e) failed) are)

  not_synced : (n : ℕ) → now ≡ replicate n Asked ++ Synced ∷ [] ++ log → ⊥
  not_synced n is = ⊎_elim
      (λ e. omega (arith, ap length is, ap length grew, ap length e, length-append acts log, length-append (replicate n Asked ++ Synced ∷ []) log, length-append (replicate n Asked) (Synced ∷ []), length-replicate {A = Act} n Asked))
      (λ e. other n (sym is ∙ grew ∙ ap (λ (l : List Act). l ++ log) e))
      are
    where
      other : (k : ℕ) → replicate k Asked ++ Synced ∷ [] ++ log ≡ SyncFailed ∷ log → ⊥
      other zero same = cc
      other (suc k) same = cc

pub sync_failed : {E : Type 0} (e : E) (x y : Told) → Syncs {T = Unit {0}} (Err e) x y → HasLooked false x y
sync_failed {E} e x y call = record {
  ran = ran_as false (IsSync {T = Unit {0}} (Err e)) (IsLooking false) x y (λ acts are. inr are) call.ran;
  few = λ ps journal. omega (arith, call.once);
  image = kept x.log y.log call.ran.acts call.ran.grew call.ran.are (λ l. reads l ≡ reads x.log) refl refl;
  frames = kept x.log y.log call.ran.acts call.ran.grew call.ran.are (λ l. sent l ≡ sent x.log) refl refl;
  pending = λ before. kept x.log y.log call.ran.acts call.ran.grew call.ran.are NothingPending before (still_unsynced x.log before);
  quiet = λ pending image frames left. kept x.log y.log call.ran.acts call.ran.grew call.ran.are (λ l. Left (length x.log) l image frames → (image ≡ reads x.log) × (frames ≡ sent x.log))
      (λ l. only_reads x.log image frames pending l)
      (quiet_on (length x.log) SyncFailed x.log (sent x.log) (λ j. j ≡ reads x.log) (λ j f w. w) refl (λ j l. pending.image j l) (λ j f l. only_reads x.log j f pending l) image frames)
      left;
  after = λ some. absurd (not_synced x.log y.log call.ran.acts call.ran.grew call.ran.are some.0 some.1);
}
