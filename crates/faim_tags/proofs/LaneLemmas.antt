-- From the mask of sixteen bytes to the run of a class.
use Rattle.std.proofs.Common.{◌≡◌, ℕ, zero, suc, ◌+◌, ◌%◌, ◌^◌, ◌<◌, ◌≤◌, min, cond, Bool, true, false, not, List, [], ◌∷◌, ◌++◌, map, length, get_or, drop, replicate, Fits, w8, refl, sym, ap, ap₂, ◌∙◌, subst, arith, inl, inr}
use Rattle.std.proofs.lemmas.Bool.{agree_below, agree_below_at, not-true, not-false, cases_eq, cases_lt, cases_Bool, eq-eqb, ne_eqb, cond-true, cond-false}
use Rattle.std.proofs.lemmas.Simd.{map-map, mask_l-mod, length-chunk, get_or-chunk, leading_from_mask_l, trailing_mask_l}
use Rattle.std.proofs.lemmas.List.{length-map, length-drop, get_or-drop}
use Rattle.std.proofs.lemmas.List.Sums.{prefix_len-le-length, prefix_len_passes, prefix_len_stops}
use Rattle.std.specs.List.{prefix_len}
use lib.Lanes.{chunk, zip2, mask_l, top}
use Rattle.faim_tags.specs.Layouts.{is_of_class}
use Rattle.faim_tags.specs.Parts.{run_length, first_set}
use Rattle.faim_tags.proofs.Counts.{run_through}

zip2-map : (h : ℕ → ℕ → ℕ) (f g : ℕ → ℕ) (xs : List ℕ) → zip2 h (map f xs) (map g xs) ≡ map (λ x. h (f x) (g x)) xs
zip2-map h f g [] = refl
zip2-map h f g (x ∷ xs) = ap (λ r. h (f x) (g x) ∷ r) (zip2-map h f g xs)

-- an operation on two vectors that were computed lane by lane from v
pub joined : (h : ℕ → ℕ → ℕ) (f g : ℕ → ℕ) (v : List ℕ) {a b : List ℕ} → a ≡ map f v → b ≡ map g v → zip2 h a b ≡ map (λ x. h (f x) (g x)) v
joined h f g v p q = ap₂ (zip2 h) p q ∙ zip2-map h f g v

pub splat_is : (v : List ℕ) (n y : ℕ) → length v ≡ n → replicate n y ≡ map (λ _. y) v
splat_is [] n y e = ap (λ k. replicate k y) (sym e)
splat_is (x ∷ xs) n y e = ap (λ k. replicate k y) (sym e) ∙ ap (λ r. y ∷ r) (splat_is xs (length xs) y refl)

pub itself : (v : List ℕ) → v ≡ map (λ x. x) v
itself [] = refl
itself (x ∷ xs) = ap (λ r. x ∷ r) (itself xs)

run_is : (p : ℕ → Bool) (v : List ℕ) (n : ℕ) → length v ≡ n → n ≤ 64 → first_set (mask_l (map p v)) n ≡ prefix_len (λ x. not (p x)) v
run_is p v n long few =
    elim (cases_eq (mask_l (map p v)) 0) [
      | inl none ↦ cond-true _ _ _ (eq-eqb _ _ none) ∙ sym (leading_from_mask_l p v none ∙ long)
      | inr some ↦ cond-false _ _ _ (ne_eqb _ _ some) ∙ trailing_mask_l p 64 v (omega arith) (omega arith)
    ]

-- so many bytes at the front are of the class, and the next one isn't
run_told : (c m r : ℕ) (bytes : List ℕ) → r ≤ m → m ≤ length bytes → ((k : ℕ) → k < r → is_of_class c (get_or bytes k 0) ≡ true) → (r < m → is_of_class c (get_or bytes r 0) ≡ false) → r ≡ run_length (replicate m c) bytes
run_told c zero r bytes le room pass stop = omega (arith, le)
run_told c (suc m) r [] le room pass stop = absurd (omega (arith, room))
run_told c (suc m) zero (b ∷ bytes) le room pass stop = ap (λ (t : Bool). cond t (suc (run_length (replicate m c) bytes)) 0) (sym (stop (omega arith)))
run_told c (suc m) (suc r) (b ∷ bytes) le room pass stop =
    ap (λ (k : ℕ). suc k) (run_told c m r bytes (omega (arith, le)) (omega (arith, room)) (λ k lt. pass (suc k) (omega (arith, lt))) (λ lt. stop (omega (arith, lt))))
    ∙ ap (λ (t : Bool). cond t (suc (run_length (replicate m c) bytes)) 0) (sym (pass zero (omega arith)))

module _ (c : ℕ) (d : List ℕ) (i n r : ℕ) (z : List ℕ) (room : i + n ≤ length d) (few : n ≤ 64)
    (fits : (k : ℕ) → Fits w8 (get_or d k 0)) (found : r ≡ first_set (mask_l (map (top 7) z) % 2 ^ 64) n)
    (f : ℕ → ℕ) (lanes : z ≡ map f (chunk i n d)) where
  abbrev stops : ℕ → Bool
  stops x = top 7 (f x)

  long : length (chunk i n d) ≡ n
  long = length-chunk i n d room

  counted : r ≡ prefix_len (λ x. not (stops x)) (chunk i n d)
  counted =
      let v = chunk i n d in
      let mask = ap (λ l. mask_l l % 2 ^ 64) (ap (map (top 7)) lanes ∙ map-map (top 7) f v) ∙ mask_l-mod (map stops v) 64 (omega (arith, length-map v stops, long)) in
      found ∙ ap (λ m. first_set m n) mask ∙ run_is stops v n long few

  -- a lane stops just where the class fails
  pub run_in : agree_below stops (λ x. not (is_of_class c x)) 256 ≡ true → r ≡ run_length (replicate n c) (drop i d)
  run_in all =
      let bound = prefix_len-le-length (λ x. not (stops x)) (chunk i n d) in
      run_told c n r (drop i d) (omega (arith, counted, long, bound)) (omega (arith, length-drop i d, room))
      (λ k lt.
      let at = get_or-chunk i n d k 0 (omega (arith, counted, long, bound)) in
      let on = subst (λ x. stops x ≡ false) at (not-true _ (prefix_len_passes (λ x. not (stops x)) (chunk i n d) k 0 (omega (arith, counted)))) in
      subst (λ x. is_of_class c x ≡ true) (sym (get_or-drop i d k 0)) (not-false _ (sym (agree_below_at stops (λ x. not (is_of_class c x)) 256 (get_or d (i + k) 0) all (fits (i + k)).fits) ∙ on)))
      (λ short.
      let at = ap (λ j. get_or (chunk i n d) j 0) (sym counted) ∙ get_or-chunk i n d r 0 short in
      let set = subst (λ x. stops x ≡ true) at (not-false _ (prefix_len_stops (λ x. not (stops x)) (chunk i n d) 0 (omega (arith, counted, long)))) in
      subst (λ x. is_of_class c x ≡ false) (sym (get_or-drop i d r 0)) (not-true _ (sym (agree_below_at stops (λ x. not (is_of_class c x)) 256 (get_or d (i + r) 0) all (fits (i + r)).fits) ∙ set)))

-- fewer of the class may be
pub run_fewer : (c m most : ℕ) (bytes : List ℕ) → m ≤ most → run_length (replicate m c) bytes ≡ min m (run_length (replicate most c) bytes)
run_fewer c zero most bytes le = omega arith
run_fewer c (suc m) zero bytes le = absurd (omega (arith, le))
run_fewer c (suc m) (suc most) [] le = omega arith
run_fewer c (suc m) (suc most) (b ∷ bytes) le =
    let more = run_fewer c m most bytes (omega (arith, le)) in
    elim (is_of_class c b) as (λ t. cond t (suc (run_length (replicate m c) bytes)) 0 ≡ min (suc m) (cond t (suc (run_length (replicate most c) bytes)) 0)) [
      | true ↦ omega (arith, more)
      | false ↦ omega arith
    ]

-- more of the class may be than there are
pub run_stays : (c m most : ℕ) (bytes : List ℕ) → run_length (replicate most c) bytes < most → most ≤ m → run_length (replicate m c) bytes ≡ run_length (replicate most c) bytes
run_stays c m zero bytes lt le = absurd (omega (arith, lt))
run_stays c zero (suc most) bytes lt le = absurd (omega (arith, le))
run_stays c (suc m) (suc most) [] lt le = refl
run_stays c (suc m) (suc most) (b ∷ bytes) lt le =
    elim (cases_Bool (is_of_class c b)) [
      | inl e ↦
          let one : run_length (replicate (suc most) c) (b ∷ bytes) ≡ suc (run_length (replicate most c) bytes) = ap (λ (t : Bool). cond t (suc (run_length (replicate most c) bytes)) 0) e in
          let all : run_length (replicate (suc m) c) (b ∷ bytes) ≡ suc (run_length (replicate m c) bytes) = ap (λ (t : Bool). cond t (suc (run_length (replicate m c) bytes)) 0) e in
          omega (arith, one, all, run_stays c m most bytes (omega (arith, lt, one)) (omega (arith, le)))
      | inr e ↦ ap (λ (t : Bool). cond t (suc (run_length (replicate m c) bytes)) 0) e ∙ sym (ap (λ (t : Bool). cond t (suc (run_length (replicate most c) bytes)) 0) e)
    ]

replicate-plus : (n m c : ℕ) → replicate (n + m) c ≡ replicate n c ++ replicate m c
replicate-plus zero m c =
    let same : 0 + m ≡ m = omega arith in ap (λ (k : ℕ). replicate k c) same
replicate-plus (suc n) m c =
    let same : suc n + m ≡ suc (n + m) = omega arith in ap (λ (k : ℕ). replicate k c) same ∙ ap (λ (l : List ℕ). c ∷ l) (replicate-plus n m c)

-- a run that goes on after bytes of the class
pub run_on : (c n m : ℕ) (bytes : List ℕ) → run_length (replicate n c) bytes ≡ n → run_length (replicate (n + m) c) bytes ≡ n + run_length (replicate m c) (drop n bytes)
run_on c n m bytes e = ap (λ (l : List ℕ). run_length l bytes) (replicate-plus n m c) ∙ run_through n c (replicate m c) bytes e

-- after bytes of the class, a run that stops among the next ones
pub run_stopped : (c most n lanes r : ℕ) (bytes : List ℕ) → run_length (replicate n c) bytes ≡ n → r ≡ run_length (replicate lanes c) (drop n bytes) → r < lanes → min most (n + r) ≡ run_length (replicate most c) bytes
run_stopped c most n lanes r bytes e is lt =
    let whole : run_length (replicate (n + lanes) c) bytes ≡ n + r = run_on c n lanes bytes e ∙ ap (λ (k : ℕ). n + k) (sym is) in
    elim (cases_lt (n + lanes) most) [
      | inl more ↦ omega (arith, whole, run_stays c most (n + lanes) bytes (omega (arith, whole, lt)) (omega (arith, more)))
      | inr le ↦ sym (run_fewer c most (n + lanes) bytes le ∙ ap (λ (k : ℕ). min most k) whole)
    ]

-- nothing is left to look at
pub run_full : (c n most : ℕ) (bytes : List ℕ) → run_length (replicate n c) bytes ≡ n → most ≤ n → most ≡ run_length (replicate most c) bytes
run_full c n most bytes e le = omega (arith, run_fewer c most n bytes le, e)
