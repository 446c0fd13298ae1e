-- What a stop in the calls of an append may leave.
use Rattle.std.proofs.Common.{◌≡◌, ◌⊎◌, inl, inr, ⊎_elim, ℕ, ◌+◌, ◌<◌, ◌≤◌, List, [], ◌∷◌, ◌++◌, length, sym, ◌∙◌, ap, refl, subst, arith, length-append}
use Rattle.site_core.specs.Log.{Act, reads, sent, firm, LeavesImage, Left, NothingPending}
use Rattle.site_core.specs.Log.Act.{Wrote, WriteFailed, Synced, SyncFailed}
use Rattle.site_core.specs.Image.{put, Torn}
use Rattle.site_core.proofs.Images.{torn_within}
use Rattle.site_core.proofs.Moments.{only_reads, quiet_on}
use Rattle.torn_journal.specs.Journal.{open_gate}
use Rattle.torn_journal.specs.Append.{IsBrokenOff, secured}
use Rattle.torn_journal.specs.Append.IsBrokenOff.{unwritten, torn, written, unsynced}
use Rattle.torn_journal.proofs.AfterTheGate.{HasGate, HasRecord, HasRecordAt, torn_after, written_after, torn_gate, written_gate}

with_count : (A B : Type 0) {C : Type 0} (n : ℕ) → 1 ≤ n → (A ⊎ B) × C → (A ⊎ (B × (1 ≤ n))) × C
with_count A B n le p = (⊎_elim (λ a. inl a) (λ b. inr (b, le)) p.0, p.1)

module _ (log : List Act) (front framed rest : List ℕ) (gate : ℕ) (is : reads log ≡ front ++ gate ∷ rest) (pending : NothingPending log) (some : 0 < length framed) where
  at_start : (image : List ℕ) (frames : List (List ℕ)) → Left (length log) log image frames → HasGate front gate image × (frames ≡ sent log)
  at_start image frames left = let now = only_reads log image frames pending left in ((rest, now.0 ∙ is), now.1)

  far : length front + 1 ≤ firm log
  far = omega (arith, pending.size, ap length is, length-append front (gate ∷ rest))

  torn_image : (image : List ℕ) → (before : List ℕ) × LeavesImage log before × Torn (length front + 1) (length framed) (firm log) before image → HasGate front gate image
  torn_image image left = torn_after front gate rest (length framed) (firm log) image far (subst (λ (b : List ℕ). Torn (length front + 1) (length framed) (firm log) b image) (pending.image left.0 left.1 ∙ is) left.2)

  written_left : (image : List ℕ) (frames : List (List ℕ)) → Left (length log) (Wrote (length front + 1) framed ∷ log) image frames → HasGate front gate image × (frames ≡ sent log)
  written_left = quiet_on (length log) (Wrote (length front + 1) framed) log (sent log) (HasGate front gate) (λ image frames w. w) refl torn_image at_start

  -- a record that is broken off leaves the gate as it was
  pub first_left : {acts : List Act} → IsBrokenOff (length front + 1) framed acts → (image : List ℕ) (frames : List (List ℕ)) → Left (length log) (acts ++ log) image frames → HasGate front gate image × (frames ≡ sent log)
  first_left unwritten = at_start
  first_left (torn found) = quiet_on (length log) (WriteFailed (length front + 1) framed found) log (sent log) (HasGate front gate) (λ image frames w. w) refl torn_image at_start
  first_left written = written_left
  first_left unsynced = quiet_on (length log) SyncFailed (Wrote (length front + 1) framed ∷ log) (sent log) (HasGate front gate) (λ image frames w. w) refl torn_image written_left

  -- the record after the gate
  recorded : HasRecordAt front gate framed (put 0 (reads log) (length front + 1) framed)
  recorded = subst (λ (l : List ℕ). HasRecordAt front gate framed (put 0 l (length front + 1) framed)) (sym is) (written_after front gate rest framed some)

  abbrev Either : List ℕ → Type 0
  Either image = HasGate front gate image ⊎ HasRecord front framed image

  middle_left : (image : List ℕ) (frames : List (List ℕ)) → Left (length log) (secured (length front + 1) framed ++ log) image frames → HasGate front gate image × (frames ≡ sent log)
  middle_left =
      quiet_on (length log) Synced (Wrote (length front + 1) framed ∷ log) (sent log) (HasGate front gate) (λ image frames w. w) refl
      (λ image now. (framed ++ recorded.0, now ∙ recorded.1))
      written_left

  middle_either : (image : List ℕ) (frames : List (List ℕ)) → Left (length log) (secured (length front + 1) framed ++ log) image frames → Either image × (frames ≡ sent log)
  middle_either image frames left = let m = middle_left image frames left in (inl m.0, m.1)

  torn_open : (image : List ℕ) → (before : List ℕ) × (before ≡ put 0 (reads log) (length front + 1) framed) × Torn (length front) 1 (length (put 0 (reads log) (length front + 1) framed)) before image → HasRecord front framed image
  torn_open image left =
      torn_gate front framed recorded.0 gate image
      (subst (λ (b : List ℕ). Torn (length front) 1 (length b) b image) recorded.1 (subst (λ (b : List ℕ). Torn (length front) 1 (length (put 0 (reads log) (length front + 1) framed)) b image) left.1 left.2))

  opened_left : (image : List ℕ) (frames : List (List ℕ)) → Left (length log) (Wrote (length front) (open_gate ∷ []) ∷ (secured (length front + 1) framed ++ log)) image frames → Either image × (frames ≡ sent log)
  opened_left =
      quiet_on (length log) (Wrote (length front) (open_gate ∷ [])) (secured (length front + 1) framed ++ log) (sent log) Either (λ image frames w. w) refl
      (λ image l. inr (torn_open image l))
      middle_either

  -- a gate that is broken off leaves it as it was, or the record after some gate
  pub second_left : {acts : List Act} → IsBrokenOff (length front) (open_gate ∷ []) acts → (image : List ℕ) (frames : List (List ℕ)) → Left (length log) (acts ++ (secured (length front + 1) framed ++ log)) image frames
      → (HasGate front gate image ⊎ (HasRecord front framed image × (1 ≤ length acts))) × (frames ≡ sent log)
  second_left unwritten image frames left = let m = middle_left image frames left in (inl m.0, m.1)
  second_left (torn found) image frames left =
      with_count _ _ 1 (omega arith)
      (quiet_on (length log) (WriteFailed (length front) (open_gate ∷ []) found) (secured (length front + 1) framed ++ log) (sent log) Either (λ image frames w. w) refl (λ image l. inr (torn_open image l)) middle_either image frames left)
  second_left written image frames left = with_count _ _ 1 (omega arith) (opened_left image frames left)
  second_left unsynced image frames left =
      with_count _ _ 2 (omega arith)
      (quiet_on (length log) SyncFailed (Wrote (length front) (open_gate ∷ []) ∷ (secured (length front + 1) framed ++ log)) (sent log) Either (λ image frames w. w) refl (λ image l. inr (torn_open image l)) opened_left image frames left)

  -- the gate is open
  pub reads_done : HasRecordAt front open_gate framed (reads (secured (length front) (open_gate ∷ []) ++ (secured (length front + 1) framed ++ log)))
  reads_done = subst (λ (l : List ℕ). HasRecordAt front open_gate framed (put 0 l (length front) (open_gate ∷ []))) (sym recorded.1) (recorded.0, written_gate front framed recorded.0 gate open_gate)

  pub done_left : (image : List ℕ) (frames : List (List ℕ)) → Left (length log) (secured (length front) (open_gate ∷ []) ++ (secured (length front + 1) framed ++ log)) image frames → Either image × (frames ≡ sent log)
  done_left =
      quiet_on (length log) Synced (Wrote (length front) (open_gate ∷ []) ∷ (secured (length front + 1) framed ++ log)) (sent log) Either (λ image frames w. w) refl
      (λ image now. inr (open_gate, reads_done.0, now ∙ reads_done.1))
      opened_left

  abbrev recorded_image : List ℕ
  recorded_image = put 0 (reads log) (length front + 1) framed

  -- a write of the gate that a stop cuts short may leave it as it was, and may leave it open
  torn_to : (bytes : List ℕ) → length bytes ≤ 1 → (before : List ℕ) × (before ≡ recorded_image) × Torn (length front) 1 (length recorded_image) before (put 0 recorded_image (length front) bytes)
  torn_to bytes few = (recorded_image, refl, torn_within 0 recorded_image (length front) bytes 1 (length recorded_image) few (omega arith))

  pub leaves : {acts : List Act} → IsBrokenOff (length front) (open_gate ∷ []) acts → 1 ≤ length acts → (bytes : List ℕ) → length bytes ≤ 1 → LeavesImage (acts ++ (secured (length front + 1) framed ++ log)) (put 0 recorded_image (length front) bytes)
  leaves unwritten some bytes few = absurd (omega (arith, some))
  leaves (torn found) some bytes few = torn_to bytes few
  leaves written some bytes few = torn_to bytes few
  leaves unsynced some bytes few = torn_to bytes few

  pub as_recorded : HasGate front gate recorded_image
  as_recorded = (framed ++ recorded.0, recorded.1)
