-- How a run of bytes goes on by one byte, and by one element.
use Rattle.std.proofs.Common.{◌≡◌, ℕ, zero, suc, ◌+◌, ◌-◌, ◌<◌, ◌≤◌, Bool, true, false, cond, eqb, min, List, [], ◌∷◌, ◌++◌, length, get_or, take, drop, replicate, refl, sym, ap, subst, ◌∙◌, arith, inl, inr}
use Rattle.std.proofs.lemmas.Bool.{cases_Bool, cases_lt}
use Rattle.std.proofs.lemmas.List.{drop_more, drop_all, drop-drop, get_or_default, get_or-take, length-append, length-take-le, length-replicate}
use Rattle.faim_base.specs.Text.{is_text_byte, is_digit}
use Rattle.faim_tags.specs.Layouts.{is_of_class, each_class}
use Rattle.faim_tags.specs.Parts.{run_length, text_length}

-- a run is no longer than its classes and its bytes
pub run_length-short : (cs bytes : List ℕ) → (run_length cs bytes ≤ length cs) × (run_length cs bytes ≤ length bytes)
run_length-short [] bytes = (omega arith, omega arith)
run_length-short (c ∷ cs) [] = (omega arith, omega arith)
run_length-short (c ∷ cs) (b ∷ bytes) =
    let r = run_length-short cs bytes in
    elim (is_of_class c b) as (λ t. (cond t (suc (run_length cs bytes)) 0 ≤ suc (length cs)) × (cond t (suc (run_length cs bytes)) 0 ≤ suc (length bytes))) [
      | true ↦ (omega (arith, r.0), omega (arith, r.1))
      | false ↦ (omega arith, omega arith)
    ]

run_length-at : (c n : ℕ) (b : ℕ) (bytes : List ℕ) (t : Bool) → is_of_class c b ≡ t → run_length (replicate (suc n) c) (b ∷ bytes) ≡ cond t (suc (run_length (replicate n c) bytes)) 0
run_length-at c n b bytes t e = ap (λ (x : Bool). cond x (suc (run_length (replicate n c) bytes)) 0) e

-- one more byte of as many as may be
pub run_more : (c most m k : ℕ) (bytes front : List ℕ) → front ≡ take m bytes → m ≡ min most (length bytes) → k < length front → is_of_class c (get_or front k 0) ≡ true → run_length (replicate (most - k) c) (drop k bytes) ≡ suc (run_length (replicate (most - (k + 1)) c) (drop (k + 1) bytes))
run_more c most m k bytes front is least lt e =
    let long : length front ≡ m = ap length is ∙ length-take-le m bytes (omega arith) in
    let same : get_or front k 0 ≡ get_or bytes k 0 = ap (λ (t : List ℕ). get_or t k 0) is ∙ get_or-take m bytes k 0 (omega arith) in
    let P : ℕ → Type 0 = λ b. is_of_class c b ≡ true in
    let left : most - k ≡ suc (most - (k + 1)) = omega arith in
    ap (λ (j : ℕ). run_length (replicate j c) (drop k bytes)) left
    ∙ ap (run_length (replicate (suc (most - (k + 1))) c)) (drop_more bytes k 0 (omega arith))
    ∙ run_length-at c (most - (k + 1)) (get_or bytes k 0) (drop (k + 1) bytes) true (subst P same e)

-- a byte of another class
pub run_stop : (c most m k : ℕ) (bytes front : List ℕ) → front ≡ take m bytes → m ≡ min most (length bytes) → k < length front → is_of_class c (get_or front k 0) ≡ false → run_length (replicate (most - k) c) (drop k bytes) ≡ 0
run_stop c most m k bytes front is least lt e =
    let long : length front ≡ m = ap length is ∙ length-take-le m bytes (omega arith) in
    let same : get_or front k 0 ≡ get_or bytes k 0 = ap (λ (t : List ℕ). get_or t k 0) is ∙ get_or-take m bytes k 0 (omega arith) in
    let P : ℕ → Type 0 = λ b. is_of_class c b ≡ false in
    let left : most - k ≡ suc (most - (k + 1)) = omega arith in
    ap (λ (j : ℕ). run_length (replicate j c) (drop k bytes)) left
    ∙ ap (run_length (replicate (suc (most - (k + 1))) c)) (drop_more bytes k 0 (omega arith))
    ∙ run_length-at c (most - (k + 1)) (get_or bytes k 0) (drop (k + 1) bytes) false (subst P same e)

run_nothing : (cs : List ℕ) → run_length cs [] ≡ 0
run_nothing [] = refl
run_nothing (c ∷ cs) = refl

-- as many bytes as may be
pub run_over : (c most m k : ℕ) (bytes front : List ℕ) → front ≡ take m bytes → m ≡ min most (length bytes) → length front ≤ k → run_length (replicate (most - k) c) (drop k bytes) ≡ 0
run_over c most m k bytes front is least le =
    let long : length front ≡ m = ap length is ∙ length-take-le m bytes (omega arith) in
    elim (cases_lt k (length bytes)) [
      | inl lt ↦ let none : most - k ≡ 0 = omega arith in ap (λ (j : ℕ). run_length (replicate j c) (drop k bytes)) none
      | inr ge ↦ ap (run_length (replicate (most - k) c)) (drop_all k bytes ge) ∙ run_nothing (replicate (most - k) c)
    ]

-- every class but that of the digits is that of text
pub run_other : (c most : ℕ) (bytes : List ℕ) → eqb c 110 ≡ false → run_length (replicate most c) bytes ≡ text_length most bytes
run_other c zero bytes other = refl
run_other c (suc most) [] other = refl
run_other c (suc most) (b ∷ bytes) other =
    ap (λ (t : Bool). cond (cond t (is_digit b) (is_text_byte b)) (suc (run_length (replicate most c) bytes)) 0) other
    ∙ ap (λ (j : ℕ). cond (is_text_byte b) (suc j) 0) (run_other c most bytes other)

-- a run that ends inside the first part ends there
pub run_part : (n c : ℕ) (more bytes : List ℕ) → run_length (replicate n c) bytes < n → run_length (replicate n c ++ more) bytes ≡ run_length (replicate n c) bytes
run_part zero c more bytes lt = absurd (omega arith)
run_part (suc n) c more [] lt = refl
run_part (suc n) c more (b ∷ bytes) lt =
    elim (cases_Bool (is_of_class c b)) [
      | inl e ↦
          let one = run_length-at c n b bytes true e in
          ap (λ (x : Bool). cond x (suc (run_length (replicate n c ++ more) bytes)) 0) e ∙ ap (λ (j : ℕ). suc j) (run_part n c more bytes (omega (arith, one))) ∙ sym one
      | inr e ↦ ap (λ (x : Bool). cond x (suc (run_length (replicate n c ++ more) bytes)) 0) e ∙ sym (run_length-at c n b bytes false e)
    ]

-- a run through the first part goes on after it
pub run_through : (n c : ℕ) (more bytes : List ℕ) → run_length (replicate n c) bytes ≡ n → run_length (replicate n c ++ more) bytes ≡ n + run_length more (drop n bytes)
run_through zero c more bytes e = omega arith
run_through (suc n) c more [] e = absurd (omega arith)
run_through (suc n) c more (b ∷ bytes) e =
    elim (cases_Bool (is_of_class c b)) [
      | inl t ↦
          let one = run_length-at c n b bytes true t in
          ap (λ (x : Bool). cond x (suc (run_length (replicate n c ++ more) bytes)) 0) t ∙ ap (λ (j : ℕ). suc j) (run_through n c more bytes (omega (arith, one))) ∙ omega arith
      | inr t ↦ absurd (omega (arith, run_length-at c n b bytes false t))
    ]

-- the classes from an element on
pub classes_at : (elements : List (ℕ × ℕ)) (k : ℕ) (e : ℕ × ℕ) → k < length elements → e ≡ get_or elements k e → each_class (drop k elements) ≡ replicate e.1 e.0 ++ each_class (drop (k + 1) elements)
classes_at elements k e lt is =
    ap each_class (drop_more elements k e lt) ∙ ap (λ (x : ℕ × ℕ). replicate x.1 x.0 ++ each_class (drop (k + 1) elements)) (sym is)

-- what is left of an element, and of those after it, after the first bytes
drop_element : (k l c : ℕ) (more : List ℕ) → drop k (replicate l c ++ more) ≡ replicate (l - k) c ++ drop (k - l) more
drop_element zero l c more =
    let whole : l ≡ l - 0 = omega arith in
    let none : 0 ≡ 0 - l = omega arith in
    ap (λ (j : ℕ). replicate j c ++ more) whole ∙ ap (λ (j : ℕ). replicate (l - 0) c ++ drop j more) none
drop_element (suc k) zero c more =
    let none : 0 ≡ 0 - suc k = omega arith in
    let all : suc k ≡ suc k - 0 = omega arith in
    ap (λ (j : ℕ). replicate j c ++ drop (suc k) more) none ∙ ap (λ (j : ℕ). replicate (0 - suc k) c ++ drop j more) all
drop_element (suc k) (suc l) c more =
    let left : l - k ≡ suc l - suc k = omega arith in
    let over : k - l ≡ suc k - suc l = omega arith in
    drop_element k l c more ∙ ap (λ (j : ℕ). replicate j c ++ drop (k - l) more) left ∙ ap (λ (j : ℕ). replicate (suc l - suc k) c ++ drop j more) over

from_element : (elements : List (ℕ × ℕ)) (k skipped : ℕ) → k < length elements → drop skipped (each_class (drop k elements)) ≡ replicate ((get_or elements k (0, 0)).1 - skipped) (get_or elements k (0, 0)).0 ++ drop (skipped - (get_or elements k (0, 0)).1) (each_class (drop (k + 1) elements))
from_element elements k skipped lt =
    let x = get_or elements k (0, 0) in
    ap (drop skipped) (classes_at elements k x lt (get_or_default elements k (0, 0) x lt)) ∙ drop_element skipped x.1 x.0 (each_class (drop (k + 1) elements))

pub from_length : (elements : List (ℕ × ℕ)) (k skipped : ℕ) → k < length elements → length (drop skipped (each_class (drop k elements))) ≡ ((get_or elements k (0, 0)).1 - skipped) + length (drop (skipped - (get_or elements k (0, 0)).1) (each_class (drop (k + 1) elements)))
from_length elements k skipped lt =
    let x = get_or elements k (0, 0) in
    let more = drop (skipped - x.1) (each_class (drop (k + 1) elements)) in
    omega (arith, ap length (from_element elements k skipped lt), length-append (replicate (x.1 - skipped) x.0) more, length-replicate {A = ℕ} (x.1 - skipped) x.0)

-- the elements from a place on without their first bytes, of which the first has a run of its own
pub from_part : (elements : List (ℕ × ℕ)) (bytes : List ℕ) (k skipped run : ℕ) → k < length elements → run ≡ run_length (replicate ((get_or elements k (0, 0)).1 - skipped) (get_or elements k (0, 0)).0) bytes → run < (get_or elements k (0, 0)).1 - skipped → run ≡ run_length (drop skipped (each_class (drop k elements))) bytes
from_part elements bytes k skipped run lt e short =
    let x = get_or elements k (0, 0) in
    let more = drop (skipped - x.1) (each_class (drop (k + 1) elements)) in
    e ∙ sym (ap (λ (t : List ℕ). run_length t bytes) (from_element elements k skipped lt) ∙ run_part (x.1 - skipped) x.0 more bytes (omega arith))

pub from_through : (elements : List (ℕ × ℕ)) (bytes : List ℕ) (k skipped count run : ℕ) → k < length elements → run ≡ run_length (replicate ((get_or elements k (0, 0)).1 - skipped) (get_or elements k (0, 0)).0) (drop count bytes) → (get_or elements k (0, 0)).1 - skipped ≤ run → run_length (drop skipped (each_class (drop k elements))) (drop count bytes) ≡ run + run_length (drop (skipped - (get_or elements k (0, 0)).1) (each_class (drop (k + 1) elements))) (drop (count + run) bytes)
from_through elements bytes k skipped count run lt e long =
    let x = get_or elements k (0, 0) in
    let wanted = x.1 - skipped in
    let more = drop (skipped - x.1) (each_class (drop (k + 1) elements)) in
    let full : run_length (replicate wanted x.0) (drop count bytes) ≡ wanted = omega (arith, (run_length-short (replicate wanted x.0) (drop count bytes)).0, length-replicate {A = ℕ} wanted x.0) in
    let same : wanted ≡ run = omega arith in
    ap (λ (t : List ℕ). run_length t (drop count bytes)) (from_element elements k skipped lt)
    ∙ run_through wanted x.0 more (drop count bytes) full
    ∙ ap (λ (j : ℕ). j + run_length more (drop j (drop count bytes))) same
    ∙ ap (λ (t : List ℕ). run + run_length more t) (drop-drop run count bytes)
