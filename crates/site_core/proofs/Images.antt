-- What writes and torn writes keep of an image.
use Rattle.std.proofs.Common.{◌≡◌, ◌⊎◌, inl, inr, ⊎_elim, ℕ, ◌+◌, ◌-◌, ◌<◌, ◌≤◌, List, [], ◌∷◌, ◌++◌, length, take, drop, get_or, replicate, sym, ◌∙◌, ap, refl, arith, length-append, length-take, length-drop}
use Rattle.std.proofs.lemmas.List.{ext_get_or, get_or_append_left, get_or-append_right, get_or-take, get_or-drop, length-replicate, append-nil}
use Rattle.site_core.specs.Image.{put, Torn}

-- two lists that agree at each place of a range have the same part there
pub same_part : (xs ys : List ℕ) (at n : ℕ) → at + n ≤ length xs → at + n ≤ length ys → ((k : ℕ) → at ≤ k → k < at + n → get_or xs k 0 ≡ get_or ys k 0) → take n (drop at xs) ≡ take n (drop at ys)
same_part xs ys at n lx ly agree = ext_get_or 0 _ _ (omega (arith, length-take n (drop at xs), length-take n (drop at ys), length-drop at xs, length-drop at ys))
    (λ i lt.
    let below : i < n = omega (arith, lt, length-take n (drop at xs)) in
    get_or-take n (drop at xs) i 0 below ∙ get_or-drop at xs i 0 ∙ agree (at + i) (omega arith) (omega arith) ∙ sym (get_or-drop at ys i 0) ∙ sym (get_or-take n (drop at ys) i 0 below))

pub same_front : (xs ys : List ℕ) (n : ℕ) → n ≤ length xs → n ≤ length ys → ((k : ℕ) → k < n → get_or xs k 0 ≡ get_or ys k 0) → take n xs ≡ take n ys
same_front xs ys n lx ly agree = ext_get_or 0 _ _ (omega (arith, length-take n xs, length-take n ys))
    (λ i lt. let below : i < n = omega (arith, lt, length-take n xs) in get_or-take n xs i 0 below ∙ agree i below ∙ sym (get_or-take n ys i 0 below))

-- a front that reaches up to the place of a write, or to the end of the image and through the gap
abbrev pub fronted : ℕ → List ℕ → ℕ → List ℕ
fronted filler image at = take at image ++ replicate (at - length image) filler

pub length-fronted : (filler : ℕ) (image : List ℕ) (at : ℕ) → length (fronted filler image at) ≡ at
length-fronted filler image at = omega (arith, length-append (take at image) (replicate (at - length image) filler), length-take at image, length-replicate {A = ℕ} (at - length image) filler)

-- no gap where the place lies within
pub fronted_within : (filler : ℕ) (image : List ℕ) (at : ℕ) → at ≤ length image → fronted filler image at ≡ take at image
fronted_within filler image at le = let none : at - length image ≡ 0 = omega arith in ap (λ k. take at image ++ replicate k filler) none ∙ append-nil (take at image)

-- some bytes written
pub put_some : (filler : ℕ) (image : List ℕ) (at : ℕ) (bytes : List ℕ) → 0 < length bytes → put filler image at bytes ≡ fronted filler image at ++ bytes ++ drop (at + length bytes) image
put_some filler image at [] some = absurd (omega arith)
put_some filler image at (b ∷ bytes) some = refl

-- some bytes written at a place within
pub put_within : (filler : ℕ) (image : List ℕ) (at : ℕ) (bytes : List ℕ) → 0 < length bytes → at ≤ length image → put filler image at bytes ≡ take at image ++ bytes ++ drop (at + length bytes) image
put_within filler image at bytes some le = put_some filler image at bytes some ∙ ap (λ (l : List ℕ). l ++ bytes ++ drop (at + length bytes) image) (fronted_within filler image at le)

module _ (filler : ℕ) (image : List ℕ) (at b : ℕ) (bytes : List ℕ) where
  abbrev all : List ℕ
  all = b ∷ bytes

  front_long : length (fronted filler image at ++ all) ≡ at + length all
  front_long = omega (arith, length-append (fronted filler image at) all, length-fronted filler image at)

  length_some : length (put filler image at all) ≡ at + length all + (length image - (at + length all))
  length_some = omega (arith, length-append (fronted filler image at ++ all) (drop (at + length all) image), front_long, length-drop (at + length all) image)

  before_some : (k : ℕ) → k < length image → k < at → get_or (put filler image at all) k 0 ≡ get_or image k 0
  before_some k lt before =
      get_or_append_left (fronted filler image at ++ all) (drop (at + length all) image) 0 k (omega (arith, front_long))
      ∙ get_or_append_left (fronted filler image at) all 0 k (omega (arith, length-fronted filler image at))
      ∙ get_or_append_left (take at image) (replicate (at - length image) filler) 0 k (omega (arith, length-take at image))
      ∙ get_or-take at image k 0 before

  after_some : (k : ℕ) → at + length all ≤ k → get_or (put filler image at all) k 0 ≡ get_or image k 0
  after_some k le =
      get_or-append_right (fronted filler image at ++ all) (drop (at + length all) image) (at + length all) k 0 front_long le
      ∙ get_or-drop (at + length all) image (k - (at + length all)) 0
      ∙ (let same : at + length all + (k - (at + length all)) ≡ k = omega arith in ap (λ i. get_or image i 0) same)

-- a write makes no image shorter
pub put_long : (filler : ℕ) (image : List ℕ) (at : ℕ) (bytes : List ℕ) → length image ≤ length (put filler image at bytes)
put_long filler image at [] = omega arith
put_long filler image at (b ∷ bytes) = omega (arith, length_some filler image at b bytes)

-- a write changes no byte outside of its range
pub put_outside : (filler : ℕ) (image : List ℕ) (at : ℕ) (bytes : List ℕ) (k : ℕ) → k < length image → (k < at) ⊎ (at + length bytes ≤ k) → get_or (put filler image at bytes) k 0 ≡ get_or image k 0
put_outside filler image at [] k lt out = refl
put_outside filler image at (b ∷ bytes) k lt out = ⊎_elim (before_some filler image at b bytes k lt) (after_some filler image at b bytes k) out

-- a write of no more bytes than the range has
pub torn_within : (filler : ℕ) (image : List ℕ) (at : ℕ) (bytes : List ℕ) (n far : ℕ) → length bytes ≤ n → far ≤ length image → Torn at n far image (put filler image at bytes)
torn_within filler image at bytes n far few le = record {
  long = omega (arith, le, put_long filler image at bytes);
  same = λ k lt out. put_outside filler image at bytes k (omega (arith, lt, le)) (⊎_elim (λ l. inl l) (λ r. inr (omega (arith, r, few))) out);
}
