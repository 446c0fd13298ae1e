-- What writes cover, and images without it.
use Rattle.std.proofs.Common.{◌≡◌, inl, inr, ⊎_elim, ℕ, ◌+◌, ◌-◌, ◌<◌, min, List, [], ◌∷◌, ◌++◌, length, take, drop, replicate, sym, ◌∙◌, ap, refl, subst, arith, append_assoc, take-append-drop, length-append, length-take, length-drop}
use Rattle.std.proofs.lemmas.Bool.{cases_lt}
use Rattle.std.proofs.lemmas.List.{take-append-le, take-replicate, take_all, drop_all, drop_at, drop-drop, append-nil, length-replicate}
use Rattle.std.proofs.Math.Seq.{take-append-add}
use Rattle.site_core.specs.declared.patch.Patch.{Patch}
use Rattle.site_core.specs.Image.{put}
use Rattle.site_core.specs.Log.{Act, reads, NothingPending}
use Rattle.site_core.specs.Log.Act.{Asked, Wrote, WriteFailed, Synced, SyncFailed, Sent, SendFailed, Restarted}
use Rattle.site_core.specs.Memory.{patch_of, patches, restored, undone, Fits, AllFit}
use Rattle.site_core.specs.Tears.{dropped}
use Rattle.site_core.proofs.Moments.{synced, restarted, still_asked, still_unsynced, still_sent, still_unsent}
use Rattle.site_core.proofs.Images.{fronted, length-fronted, fronted_within, put_some}

-- an image made longer by zeros keeps the front of a write
wide_front : (image : List ℕ) (at n : ℕ) → take at (image ++ replicate (at + n - length image) 0) ≡ fronted 0 image at
wide_front image at n = ⊎_elim
    (λ past.
    let more : length image + (at - length image) ≡ at = omega arith in
    sym (ap (λ k. take k (image ++ replicate (at + n - length image) 0)) more)
    ∙ take-append-add image (replicate (at + n - length image) 0) (at - length image)
    ∙ ap (λ (l : List ℕ). image ++ l) (take-replicate (at - length image) (at + n - length image) 0 (omega arith))
    ∙ sym (ap (λ (l : List ℕ). l ++ replicate (at - length image) 0) (take_all at image (omega arith))))
    (λ within. take-append-le at image (replicate (at + n - length image) 0) within ∙ sym (fronted_within 0 image at within))
    (cases_lt (length image) at)

wide_back : (image : List ℕ) (end : ℕ) → drop end (image ++ replicate (end - length image) 0) ≡ drop end image
wide_back image end = ⊎_elim
    (λ past. drop_all end (image ++ replicate (end - length image) 0) (omega (arith, length-append image (replicate (end - length image) 0), length-replicate {A = ℕ} (end - length image) 0)) ∙ sym (drop_all end image (omega arith)))
    (λ within. let none : end - length image ≡ 0 = omega arith in ap (λ k. drop end (image ++ replicate k 0)) none ∙ ap (λ (l : List ℕ). drop end l) (append-nil image))
    (cases_lt (length image) end)

-- bytes over an image that was made longer are a write
pub put_wide : (image : List ℕ) (at : ℕ) (bytes : List ℕ) → 0 < length bytes
    → take at (image ++ replicate (at + length bytes - length image) 0) ++ bytes ++ drop (at + length bytes) (image ++ replicate (at + length bytes - length image) 0) ≡ put 0 image at bytes
put_wide image at bytes some =
    ap (λ (l : List ℕ). l ++ bytes ++ drop (at + length bytes) (image ++ replicate (at + length bytes - length image) 0)) (wide_front image at (length bytes))
    ∙ ap (λ (l : List ℕ). fronted 0 image at ++ bytes ++ l) (wide_back image (at + length bytes))
    ∙ sym (put_some 0 image at bytes some)

-- what a write leaves in front of the range, and after it
pub put_from : (filler : ℕ) (image : List ℕ) (at : ℕ) (bytes : List ℕ) → 0 < length bytes → take (min at (length image)) (put filler image at bytes) ≡ take (min at (length image)) image
put_from filler image at bytes some =
    let more = bytes ++ drop (at + length bytes) image in
    let is : put filler image at bytes ≡ take at image ++ (replicate (at - length image) filler ++ more) =
    put_some filler image at bytes some ∙ append_assoc (fronted filler image at) bytes (drop (at + length bytes) image) ∙ append_assoc (take at image) (replicate (at - length image) filler) more in
    ap (λ (l : List ℕ). take (min at (length image)) l) is
    ∙ take-append-le (min at (length image)) (take at image) (replicate (at - length image) filler ++ more) (omega (arith, length-take at image))
    ∙ ⊎_elim
    (λ past. let same : min at (length image) ≡ length image = omega arith in ap (λ k. take k (take at image)) same ∙ ap (λ (l : List ℕ). take (length image) l) (take_all at image (omega arith)) ∙ sym (ap (λ k. take k image) same))
    (λ within. let same : min at (length image) ≡ at = omega arith in ap (λ k. take k (take at image)) same ∙ take_all at (take at image) (omega (arith, length-take at image)) ∙ sym (ap (λ k. take k image) same))
    (cases_lt (length image) at)

pub put_back : (filler : ℕ) (image : List ℕ) (at : ℕ) (bytes : List ℕ) → 0 < length bytes → drop (at + length bytes) (put filler image at bytes) ≡ drop (at + length bytes) image
put_back filler image at bytes some =
    ap (λ (l : List ℕ). drop (at + length bytes) l) (put_some filler image at bytes some)
    ∙ drop_at (fronted filler image at ++ bytes) (drop (at + length bytes) image) (at + length bytes) (omega (arith, length-append (fronted filler image at) bytes, length-fronted filler image at))

pub nothing_there : (image middle : List ℕ) → middle ≡ [] → take 0 image ++ middle ++ drop 0 image ≡ image
nothing_there image middle none = ap (λ (l : List ℕ). take 0 image ++ l ++ drop 0 image) none ∙ ap (λ (l : List ℕ). l ++ drop 0 image) (append-nil (take 0 image)) ∙ take-append-drop 0 image

-- an image, put together again from the parts of a range
three_parts : (image : List ℕ) (at n : ℕ) → take (min at (length image)) image ++ take n (drop at image) ++ drop (at + n) image ≡ image
three_parts image at n =
    append_assoc (take (min at (length image)) image) (take n (drop at image)) (drop (at + n) image)
    ∙ ap (λ (l : List ℕ). take (min at (length image)) image ++ l) (ap (λ (l : List ℕ). take n (drop at image) ++ l) (sym (drop-drop n at image)) ∙ take-append-drop n (drop at image))
    ∙ ⊎_elim
    (λ past. let same : min at (length image) ≡ length image = omega arith in ap (λ k. take k image ++ drop at image) same ∙ ap (λ (l : List ℕ). take (length image) image ++ l) (drop_all at image (omega arith)) ∙ append-nil (take (length image) image) ∙ take_all (length image) image (omega arith))
    (λ within. let same : min at (length image) ≡ at = omega arith in ap (λ k. take k image ++ drop at image) same ∙ take-append-drop at image)
    (cases_lt (length image) at)

-- a write taken back
pub restore_put : (image : List ℕ) (at : ℕ) (bytes : List ℕ) → restored (patch_of image at bytes) (put 0 image at bytes) ≡ image
restore_put image at [] = nothing_there image [] refl
restore_put image at (b ∷ bytes) =
    ap (λ (l : List ℕ). l ++ take (length (b ∷ bytes)) (drop at image) ++ drop (at + length (b ∷ bytes)) (put 0 image at (b ∷ bytes))) (put_from 0 image at (b ∷ bytes) (omega arith))
    ∙ ap (λ (l : List ℕ). take (min at (length image)) image ++ take (length (b ∷ bytes)) (drop at image) ++ l) (put_back 0 image at (b ∷ bytes) (omega arith))
    ∙ three_parts image at (length (b ∷ bytes))

pub length_put : (filler : ℕ) (image : List ℕ) (at : ℕ) (bytes : List ℕ) → 0 < length bytes → length (put filler image at bytes) ≡ at + length bytes + (length image - (at + length bytes))
length_put filler image at bytes some =
    omega (arith, ap length (put_some filler image at bytes some), length-append (fronted filler image at ++ bytes) (drop (at + length bytes) image), length-append (fronted filler image at) bytes, length-fronted filler image at, length-drop (at + length bytes) image)

fits_put : (image : List ℕ) (at : ℕ) (bytes : List ℕ) → Fits (patch_of image at bytes) (put 0 image at bytes)
fits_put image at [] = record { order = omega arith; within = omega arith; whole = inl refl }
fits_put image at (b ∷ bytes) =
    let n = length (b ∷ bytes) in
    let part = length-take (length (b ∷ bytes)) (drop at image) in
    let rest = length-drop at image in
    let long = length_put 0 image at (b ∷ bytes) (omega arith) in
    record {
      order = omega (arith, part, rest);
      within = omega (arith, long);
      whole = ⊎_elim (λ past. inr (omega (arith, long, past))) (λ within. inl (omega (arith, part, rest, within))) (cases_lt (length image) (at + n));
    }

-- the patches of a log fit, and without them the image is that of the last sync or restart
pub fit_log : (log : List Act) → AllFit (patches log) (reads log)
fit_log [] = tt
fit_log (Synced ∷ log) = tt
fit_log (Restarted image ∷ log) = tt
fit_log (Wrote at bytes ∷ log) = (fits_put (reads log) at bytes, subst (AllFit (patches log)) (sym (restore_put (reads log) at bytes)) (fit_log log))
fit_log (WriteFailed at bytes found ∷ log) = (fits_put (reads log) at (take (length bytes) found), subst (AllFit (patches log)) (sym (restore_put (reads log) at (take (length bytes) found))) (fit_log log))
fit_log (Asked ∷ log) = fit_log log
fit_log (SyncFailed ∷ log) = fit_log log
fit_log (Sent frame ∷ log) = fit_log log
fit_log (SendFailed frame kept ∷ log) = fit_log log

pub undone_log : (log : List Act) → undone (patches log) (reads log) ≡ dropped log
undone_log [] = refl
undone_log (Synced ∷ log) = refl
undone_log (Restarted image ∷ log) = refl
undone_log (Wrote at bytes ∷ log) = ap (undone (patches log)) (restore_put (reads log) at bytes) ∙ undone_log log
undone_log (WriteFailed at bytes found ∷ log) = ap (undone (patches log)) (restore_put (reads log) at (take (length bytes) found)) ∙ undone_log log
undone_log (Asked ∷ log) = undone_log log
undone_log (SyncFailed ∷ log) = undone_log log
undone_log (Sent frame ∷ log) = undone_log log
undone_log (SendFailed frame kept ∷ log) = undone_log log

-- where no write is pending nothing is
pub nothing_covered : (log : List Act) → patches log ≡ [] → NothingPending log
nothing_covered [] none = record { image = λ image left. left; size = refl }
nothing_covered (Synced ∷ log) none = synced log
nothing_covered (Restarted image ∷ log) none = restarted image log
nothing_covered (Wrote at bytes ∷ log) none = absurd cc
nothing_covered (WriteFailed at bytes found ∷ log) none = absurd cc
nothing_covered (Asked ∷ log) none = still_asked log (nothing_covered log none)
nothing_covered (SyncFailed ∷ log) none = still_unsynced log (nothing_covered log none)
nothing_covered (Sent frame ∷ log) none = still_sent frame log (nothing_covered log none)
nothing_covered (SendFailed frame kept ∷ log) none = still_unsent frame kept log (nothing_covered log none)

-- the same of what a write was found to cover
pub fits_after : (image now : List ℕ) (at : ℕ) (bytes : List ℕ) (p : Patch) → p ≡ patch_of image at bytes → now ≡ put 0 image at bytes → Fits p now
fits_after image now at bytes p is put_is = subst (λ (q : Patch). Fits q now) (sym is) (subst (Fits (patch_of image at bytes)) (sym put_is) (fits_put image at bytes))

pub restored_after : (image now : List ℕ) (at : ℕ) (bytes : List ℕ) (p : Patch) → p ≡ patch_of image at bytes → now ≡ put 0 image at bytes → restored p now ≡ image
restored_after image now at bytes p is put_is = ap (λ (q : Patch). restored q now) is ∙ ap (restored (patch_of image at bytes)) put_is ∙ restore_put image at bytes
