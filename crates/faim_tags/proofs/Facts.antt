-- Facts of the table of layouts as a whole.
use Rattle.std.proofs.Common.{◌≡◌, ℕ, ◌<◌, Bool, true, ltb, eqb, not, ◌&&◌, List, [], ◌∷◌, ◌++◌, length, get_or, drop, refl, subst, inl, inr}
use Rattle.std.specs.Prelude.{nat_eq}
use Rattle.std.specs.List.{list_all, list_any, starts_with}
use Rattle.std.proofs.lemmas.Bool.{and_parts, and_from, or_cases, or_left, or_right, eqb-true, eq-eqb, ltb-true}
use Rattle.std.proofs.lemmas.List.Recursion.{and_at}
use Rattle.faim_base.specs.Tags.{is_tag_number, tag_numbers}
use Rattle.faim_tags.specs.Layouts.{row_of, classes, maxima}
use Rattle.faim_tags.specs.Spelling.{braced, is_empty}
use Rattle.faim_tags.specs.Reading.{is_among}
use Rattle.faim_tags.specs.Steps.{number_in}

-- what holds of each number of a list holds of one that is among them
pub among_all : (p : ℕ → Bool) (xs : List ℕ) (n : ℕ) → list_all p xs ≡ true → is_among xs n ≡ true → p n ≡ true
among_all p [] n h e = absurd cc
among_all p (x ∷ xs) n h e =
    let both = and_parts (p x) (list_all p xs) h in
    elim (or_cases (eqb x n) (list_any (λ m. eqb m n) xs) e) [
      | inl same ↦ let x_is : x ≡ n = eqb-true x n same in let P : ℕ → Type 0 = λ m. p m ≡ true in subst P x_is both.0
      | inr more ↦ among_all p xs n both.1 more
    ]

-- one that passes is among the numbers
pub any_found : (p : ℕ → Bool) (xs : List ℕ) → list_any p xs ≡ true → (n : ℕ) × (is_among xs n ≡ true) × (p n ≡ true)
any_found p [] e = absurd cc
any_found p (x ∷ xs) e =
    elim (or_cases (p x) (list_any p xs) e) [
      | inl here ↦ (x, or_left (eqb x x) (list_any (λ m. eqb m x) xs) (eq-eqb x x refl), here)
      | inr more ↦ let f = any_found p xs more in (f.0, or_right (eqb x f.0) (list_any (λ m. eqb m f.0) xs) f.1, f.2)
    ]

abbrev roomy : ℕ → Bool
roomy n = list_all (λ m. ltb 0 m) (maxima n)

all_roomy : list_all roomy tag_numbers ≡ true
unfolding row_of
all_roomy = refl

-- each star element may have a byte
pub room : (n k : ℕ) → is_tag_number n ≡ true → k < length (maxima n) → 0 < get_or (maxima n) k 0
room n k e lt = ltb-true 0 (get_or (maxima n) k 0) (and_at (list_all (λ m. ltb 0 m)) (λ m. ltb 0 m) refl (λ _ _. refl) (maxima n) k 0 lt (among_all roomy tag_numbers n all_roomy e))

abbrev holds_some : ℕ → Bool
holds_some n = not (is_empty (classes n) && is_empty (maxima n))

all_hold_some : list_all holds_some tag_numbers ≡ true
unfolding row_of
all_hold_some = refl

-- each tag has a fixed element or a star element
pub some_element : (n : ℕ) → is_tag_number n ≡ true → holds_some n ≡ true
some_element n e = among_all holds_some tag_numbers n all_hold_some e

abbrev comes_back : ℕ → Bool
comes_back n = eqb (number_in (braced n)) n

all_come_back : list_all comes_back tag_numbers ≡ true
all_come_back = refl

-- a number in braces gives itself back
pub number_back : (n : ℕ) → is_tag_number n ≡ true → number_in (braced n) ≡ n
number_back n e = eqb-true (number_in (braced n)) n (among_all comes_back tag_numbers n all_come_back e)

pub starts_with-split : (front bytes : List ℕ) → starts_with nat_eq bytes front ≡ true → bytes ≡ front ++ drop (length front) bytes
starts_with-split [] bytes e = refl
starts_with-split (p ∷ front) [] e = absurd cc
starts_with-split (p ∷ front) (b ∷ bytes) e =
    let both = and_parts (eqb p b) (starts_with nat_eq bytes front) e in
    let here : p ≡ b = eqb-true p b both.0 in
    let more = starts_with-split front bytes both.1 in
    cc

pub starts_with-front : (front rest : List ℕ) → starts_with nat_eq (front ++ rest) front ≡ true
starts_with-front [] rest = refl
starts_with-front (p ∷ front) rest = and_from (eqb p p) (starts_with nat_eq (front ++ rest) front) (eq-eqb p p refl) (starts_with-front front rest)
