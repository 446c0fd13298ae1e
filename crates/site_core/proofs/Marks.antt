-- Images in which all that is pending is one byte.
use Rattle.std.proofs.Common.{◌≡◌, ◌⊎◌, inl, inr, ⊎_elim, ℕ, ◌+◌, ◌-◌, ◌<◌, ◌≤◌, min, List, [], ◌∷◌, ◌++◌, length, take, drop, get_or, replicate, sym, ◌∙◌, ap, refl, arith, append_assoc, length-append, length-take, length-drop}
use Rattle.std.proofs.lemmas.Bool.{cases_lt}
use Rattle.std.proofs.lemmas.List.{ext_get_or, get_or_append_left, get_or-append_right, get_or-take, get_or-drop, get_or-replicate, replicate-append-replicate, take_all, length-replicate}
use Rattle.site_core.specs.declared.patch.Patch.{Patch}
use Rattle.site_core.specs.Image.{put}
use Rattle.site_core.specs.Log.{Act, reads}
use Rattle.site_core.specs.Log.Act.{Asked, Wrote, WriteFailed, Synced, SyncFailed, Sent, SendFailed, Restarted}
use Rattle.site_core.specs.Memory.{patch_of, patches, filled, filled_all, IsWithin, AllWithin, IsPlain}
use Rattle.site_core.specs.Tears.{marked}
use Rattle.site_core.proofs.Images.{fronted, length-fronted, fronted_within, put_some, put_long, put_outside}
use Rattle.site_core.proofs.Patches.{put_from, put_back, length_put, nothing_there}

module _ (x : ℕ) where
  -- one byte all over what a write covered, in place of its bytes
  pub fill_put : (image : List ℕ) (at : ℕ) (bytes : List ℕ) → filled x (patch_of image at bytes) (put 0 image at bytes) ≡ put x image at (replicate (length bytes) x)
  fill_put image at [] = nothing_there image (replicate (0 - 0) x) refl
  fill_put image at (b ∷ bytes) =
      let n = length (b ∷ bytes) in
      let xs = replicate n x in
      let long : length (replicate (length (b ∷ bytes)) x) ≡ length (b ∷ bytes) = length-replicate {A = ℕ} (length (b ∷ bytes)) x in
      ap (λ (l : List ℕ). l ++ replicate (at + n - min at (length image)) x ++ drop (at + n) (put 0 image at (b ∷ bytes))) (put_from 0 image at (b ∷ bytes) (omega arith))
      ∙ ap (λ (l : List ℕ). take (min at (length image)) image ++ replicate (at + n - min at (length image)) x ++ l) (put_back 0 image at (b ∷ bytes) (omega arith))
      ∙ ap (λ (l : List ℕ). l ++ drop (at + n) image) (front image at n)
      ∙ sym (put_some x image at xs (omega (arith, long)) ∙ ap (λ k. fronted x image at ++ xs ++ drop (at + k) image) long)
    where
      front : (image : List ℕ) (at n : ℕ) → take (min at (length image)) image ++ replicate (at + n - min at (length image)) x ≡ fronted x image at ++ replicate n x
      front image at n = ⊎_elim
          (λ past.
          let same : min at (length image) ≡ length image = omega arith in
          let count : at + n - length image ≡ at - length image + n = omega arith in
          ap (λ k. take k image ++ replicate (at + n - k) x) same
          ∙ ap (λ (l : List ℕ). l ++ replicate (at + n - length image) x) (take_all (length image) image (omega arith) ∙ sym (take_all at image (omega arith)))
          ∙ ap (λ k. take at image ++ replicate k x) count
          ∙ ap (λ (l : List ℕ). take at image ++ l) (sym (replicate-append-replicate (at - length image) n x))
          ∙ sym (append_assoc (take at image) (replicate (at - length image) x) (replicate n x)))
          (λ within.
          let same : min at (length image) ≡ at = omega arith in
          let count : at + n - at ≡ n = omega arith in
          ap (λ k. take k image ++ replicate (at + n - k) x) same
          ∙ ap (λ k. take at image ++ replicate k x) count
          ∙ ap (λ (l : List ℕ). l ++ replicate n x) (sym (fronted_within x image at within)))
          (cases_lt (length image) at)

  module _ (p : Patch) (image : List ℕ) (inside : IsWithin (length image) p) where
    front_long : length (take p.from image ++ replicate (p.end - p.from) x) ≡ p.end
    front_long = omega (arith, inside.order, inside.within, length-append (take p.from image) (replicate (p.end - p.from) x), length-take p.from image, length-replicate {A = ℕ} (p.end - p.from) x)

    pub length_filled : length (filled x p image) ≡ length image
    length_filled = omega (arith, inside.within, front_long, length-append (take p.from image ++ replicate (p.end - p.from) x) (drop p.end image), length-drop p.end image)

    filled_before : (k : ℕ) → k < p.from → get_or (filled x p image) k 0 ≡ get_or image k 0
    filled_before k lt =
        get_or_append_left (take p.from image ++ replicate (p.end - p.from) x) (drop p.end image) 0 k (omega (arith, front_long, inside.order))
        ∙ get_or_append_left (take p.from image) (replicate (p.end - p.from) x) 0 k (omega (arith, length-take p.from image, inside.order, inside.within))
        ∙ get_or-take p.from image k 0 lt

    filled_in : (k : ℕ) → p.from ≤ k → k < p.end → get_or (filled x p image) k 0 ≡ x
    filled_in k le lt =
        get_or_append_left (take p.from image ++ replicate (p.end - p.from) x) (drop p.end image) 0 k (omega (arith, front_long))
        ∙ get_or-append_right (take p.from image) (replicate (p.end - p.from) x) p.from k 0 (omega (arith, length-take p.from image, inside.order, inside.within)) le
        ∙ get_or-replicate (p.end - p.from) (k - p.from) x 0 (omega arith)

    filled_after : (k : ℕ) → p.end ≤ k → get_or (filled x p image) k 0 ≡ get_or image k 0
    filled_after k le =
        get_or-append_right (take p.from image ++ replicate (p.end - p.from) x) (drop p.end image) p.end k 0 front_long le
        ∙ get_or-drop p.end image (k - p.end) 0
        ∙ (let same : p.end + (k - p.end) ≡ k = omega arith in ap (λ i. get_or image i 0) same)

    filled_outside : (k : ℕ) → (k < p.from) ⊎ (p.end ≤ k) → get_or (filled x p image) k 0 ≡ get_or image k 0
    filled_outside k out = ⊎_elim (filled_before k) (filled_after k) out

  -- a byte of a marked write, or of the gap in front of it
  put_in_range : (image : List ℕ) (at n k : ℕ) → 0 < n → min at (length image) ≤ k → k < at + n → get_or (put x image at (replicate n x)) k 0 ≡ x
  put_in_range image at n k some le lt =
      let long : length (replicate n x) ≡ n = length-replicate {A = ℕ} n x in
      let wide : length (fronted x image at ++ replicate n x) ≡ at + n = omega (arith, length-append (fronted x image at) (replicate n x), length-fronted x image at, long) in
      ap (λ (l : List ℕ). get_or l k 0) (put_some x image at (replicate n x) (omega (arith, long)))
      ∙ get_or_append_left (fronted x image at ++ replicate n x) (drop (at + length (replicate n x)) image) 0 k (omega (arith, wide))
      ∙ ⊎_elim
      (λ gap.
      get_or_append_left (fronted x image at) (replicate n x) 0 k (omega (arith, length-fronted x image at))
      ∙ get_or-append_right (take at image) (replicate (at - length image) x) (length image) k 0 (omega (arith, length-take at image)) (omega arith)
      ∙ get_or-replicate (at - length image) (k - length image) x 0 (omega arith))
      (λ here.
      get_or-append_right (fronted x image at) (replicate n x) at k 0 (length-fronted x image at) here
      ∙ get_or-replicate n (k - at) x 0 (omega arith))
      (cases_lt k at)

  module _ (p : Patch) (image : List ℕ) (at n : ℕ) (inside : IsWithin (length image) p) (some : 0 < n) where
    xs_long : length (replicate n x) ≡ n
    xs_long = length-replicate {A = ℕ} n x

    more : IsWithin (length (put x image at (replicate n x))) p
    more = record { order = inside.order; within = omega (arith, inside.within, put_long x image at (replicate n x)) }

    same_size : length (filled x p (put x image at (replicate n x))) ≡ length (put x (filled x p image) at (replicate n x))
    same_size = omega (arith, length_filled p (put x image at (replicate n x)) more, length_filled p image inside, length_put x image at (replicate n x) (omega (arith, xs_long)), length_put x (filled x p image) at (replicate n x) (omega (arith, xs_long)))

    -- at a byte that the marked write covers
    hit : (k : ℕ) → min at (length image) ≤ k → k < at + n → get_or (filled x p (put x image at (replicate n x))) k 0 ≡ get_or (put x (filled x p image) at (replicate n x)) k 0
    hit k le lt =
        ⊎_elim
        (λ before. filled_outside p (put x image at (replicate n x)) more k (inl before) ∙ put_in_range image at n k some le lt)
        (λ from. ⊎_elim
        (λ within. filled_in p (put x image at (replicate n x)) more k from within)
        (λ after. filled_outside p (put x image at (replicate n x)) more k (inr after) ∙ put_in_range image at n k some le lt)
        (cases_lt k p.end))
        (cases_lt k p.from)
        ∙ sym (put_in_range (filled x p image) at n k some (omega (arith, length_filled p image inside)) lt)

    -- at any other byte
    miss : (k : ℕ) → k < length image → (k < at) ⊎ (at + n ≤ k) → get_or (filled x p (put x image at (replicate n x))) k 0 ≡ get_or (put x (filled x p image) at (replicate n x)) k 0
    miss k lt out =
        let out' : (k < at) ⊎ (at + length (replicate n x) ≤ k) = ⊎_elim (λ l. inl l) (λ r. inr (omega (arith, r, xs_long))) out in
        ⊎_elim
        (λ before. filled_outside p (put x image at (replicate n x)) more k (inl before) ∙ put_outside x image at (replicate n x) k lt out' ∙ sym (filled_outside p image inside k (inl before)))
        (λ from. ⊎_elim
        (λ within. filled_in p (put x image at (replicate n x)) more k from within ∙ sym (filled_in p image inside k from within))
        (λ after. filled_outside p (put x image at (replicate n x)) more k (inr after) ∙ put_outside x image at (replicate n x) k lt out' ∙ sym (filled_outside p image inside k (inr after)))
        (cases_lt k p.end))
        (cases_lt k p.from)
        ∙ sym (put_outside x (filled x p image) at (replicate n x) k (omega (arith, lt, length_filled p image inside)) out')

    fill_commutes : filled x p (put x image at (replicate n x)) ≡ put x (filled x p image) at (replicate n x)
    fill_commutes = ext_get_or 0 _ _ same_size
        (λ k lt.
        let whole : k < at + n + (length image - (at + n)) = omega (arith, lt, length_filled p (put x image at (replicate n x)) more, length_put x image at (replicate n x) (omega (arith, xs_long)), xs_long) in
        ⊎_elim
        (λ below. ⊎_elim
        (λ inside'. ⊎_elim (λ l. miss k inside' (inl l)) (λ g. hit k (omega arith) below) (cases_lt k at))
        (λ past. hit k (omega arith) below)
        (cases_lt k (length image)))
        (λ after. miss k (omega (arith, whole, after)) (inr after))
        (cases_lt k (at + n)))

  still_within : (ps : List Patch) (m n : ℕ) → m ≤ n → AllWithin m ps → AllWithin n ps
  still_within [] m n le all = tt
  still_within (p ∷ ps) m n le all = (record { order = all.0.order; within = omega (arith, le, all.0.within) }, still_within ps m n le all.1)

  fills_commute : (ps : List Patch) (image : List ℕ) (at n : ℕ) → AllWithin (length image) ps → filled_all x ps (put x image at (replicate n x)) ≡ put x (filled_all x ps image) at (replicate n x)
  fills_commute [] image at n all = refl
  fills_commute (p ∷ ps) image at n all =
      ⊎_elim
      (λ none. let zero_long : n ≡ 0 = omega arith in ap (λ k. filled_all x ps (filled x p (put x image at (replicate k x)))) zero_long ∙ sym (ap (λ k. put x (filled_all x ps (filled x p image)) at (replicate k x)) zero_long))
      (λ some. ap (filled_all x ps) (fill_commutes p image at n all.0 (omega arith)) ∙ fills_commute ps (filled x p image) at n (still_within ps (length image) (length (filled x p image)) (omega (arith, length_filled p image all.0)) all.1))
      (cases_lt n 1)

within_put : (image : List ℕ) (at : ℕ) (bytes : List ℕ) → IsWithin (length (put 0 image at bytes)) (patch_of image at bytes)
within_put image at [] = record { order = omega arith; within = omega arith }
within_put image at (b ∷ bytes) = record { order = omega arith; within = omega (arith, length_put 0 image at (b ∷ bytes) (omega arith)) }

-- the patches of a log lie within the image that reads
pub within_log : (log : List Act) → AllWithin (length (reads log)) (patches log)
within_log [] = tt
within_log (Synced ∷ log) = tt
within_log (Restarted image ∷ log) = tt
within_log (Wrote at bytes ∷ log) = (within_put (reads log) at bytes, still_within 0 (patches log) (length (reads log)) (length (put 0 (reads log) at bytes)) (put_long 0 (reads log) at bytes) (within_log log))
within_log (WriteFailed at bytes found ∷ log) = (within_put (reads log) at (take (length bytes) found), still_within 0 (patches log) (length (reads log)) (length (put 0 (reads log) at (take (length bytes) found))) (put_long 0 (reads log) at (take (length bytes) found)) (within_log log))
within_log (Asked ∷ log) = within_log log
within_log (SyncFailed ∷ log) = within_log log
within_log (Sent frame ∷ log) = within_log log
within_log (SendFailed frame kept ∷ log) = within_log log

marked_write : (x : ℕ) (log : List Act) (at : ℕ) (bytes : List ℕ) → filled_all x (patches log) (reads log) ≡ marked x log → filled_all x (patches log) (filled x (patch_of (reads log) at bytes) (put 0 (reads log) at bytes)) ≡ put x (marked x log) at (replicate (length bytes) x)
marked_write x log at bytes before =
    ap (filled_all x (patches log)) (fill_put x (reads log) at bytes)
    ∙ fills_commute x (patches log) (reads log) at (length bytes) (within_log log)
    ∙ ap (λ (l : List ℕ). put x l at (replicate (length bytes) x)) before

-- filling in place gives the image in which all pending bytes are the mark
pub marked_log : (x : ℕ) (log : List Act) → IsPlain log → filled_all x (patches log) (reads log) ≡ marked x log
marked_log x [] plain = refl
marked_log x (Synced ∷ log) plain = refl
marked_log x (Restarted image ∷ log) plain = refl
marked_log x (Wrote at bytes ∷ log) plain = marked_write x log at bytes (marked_log x log plain)
marked_log x (WriteFailed at bytes found ∷ log) plain =
    ap (λ (l : List ℕ). filled_all x (patches log) (filled x (patch_of (reads log) at l) (put 0 (reads log) at l))) plain.0 ∙ marked_write x log at bytes (marked_log x log plain.1)
marked_log x (Asked ∷ log) plain = marked_log x log plain
marked_log x (SyncFailed ∷ log) plain = marked_log x log plain
marked_log x (Sent frame ∷ log) plain = marked_log x log plain
marked_log x (SendFailed frame kept ∷ log) plain = marked_log x log plain
