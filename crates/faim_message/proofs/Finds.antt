-- The tag with a number.
use Rattle.std.proofs.Common.{◌≡◌, ℕ, ◌+◌, ◌<◌, Bool, true, false, cond, eqb, not, ◌||◌, List, [], ◌∷◌, length, get_or, drop, zero, suc, Some, None, refl, sym, ap, subst, ◌∙◌, arith}
use Rattle.std.specs.Prelude.{◌==◌, is_some}
use Rattle.std.specs.List.{find}
use Rattle.std.proofs.lemmas.Bool.{eq-eqb, eqb-true}
use Rattle.faim_tags.specs.Spelling.{Tag}
use Rattle.faim_tags.specs.Reading.{is_among}
use Rattle.faim_message.specs.Spelling.{numbers}

-- what is found has the number
pub found_number : (n : ℕ) (tags : List Tag) (v : Tag) → find (λ w. w.no == n) tags ≡ Some v → v.no ≡ n
found_number n [] v e = absurd cc
found_number n (w ∷ tags) v e = here (λ h. found_number n tags v h) (eqb w.no n) refl e
  where
    here : (find (λ w. w.no == n) tags ≡ Some v → v.no ≡ n) → (b : Bool) → eqb w.no n ≡ b → cond b (Some w) (find (λ w. w.no == n) tags) ≡ Some v → v.no ≡ n
    here more true b e = let same : w ≡ v = cc in ap (λ (x : Tag). x.no) (sym same) ∙ eqb-true w.no n b
    here more false b e = more e

-- a number that is there is found
pub found_there : (n : ℕ) (tags : List Tag) → is_among (numbers tags) n ≡ true → find (λ w. w.no == n) tags ≡ None → ⊥
found_there n [] e f = absurd (let wrong : false ≡ true = e in cc)
found_there n (w ∷ tags) e f = here (λ h k. found_there n tags h k) (eqb w.no n) e f
  where
    here : (is_among (numbers tags) n ≡ true → find (λ w. w.no == n) tags ≡ None → ⊥) → (b : Bool) → b || is_among (numbers tags) n ≡ true → cond b (Some w) (find (λ w. w.no == n) tags) ≡ None → ⊥
    here more true e f = absurd cc
    here more false e f = more e f

-- a number is there exactly where it is found
pub finds_among : (n : ℕ) (tags : List Tag) → is_some (find (λ w. w.no == n) tags) ≡ is_among (numbers tags) n
finds_among n [] = refl
finds_among n (w ∷ tags) = here (eqb w.no n) (finds_among n tags)
  where
    here : (b : Bool) → is_some (find (λ v. v.no == n) tags) ≡ is_among (numbers tags) n → is_some (cond b (Some w) (find (λ v. v.no == n) tags)) ≡ b || is_among (numbers tags) n
    here true more = refl
    here false more = more

-- a tag's number is among those of the tags
pub number_at : (tags : List Tag) (k : ℕ) (other : Tag) (n : ℕ) → k < length tags → (get_or tags k other).no ≡ n → is_among (numbers tags) n ≡ true
number_at [] k other n lt e = absurd (omega (arith, lt))
number_at (w ∷ tags) zero other n lt e = here (eqb w.no n) (eq-eqb w.no n e)
  where
    here : (b : Bool) → b ≡ true → b || is_among (numbers tags) n ≡ true
    here true e = refl
    here false e = absurd cc
number_at (w ∷ tags) (suc k) other n lt e = here (eqb w.no n) (number_at tags k other n (omega (arith, lt)) e)
  where
    here : (b : Bool) → is_among (numbers tags) n ≡ true → b || is_among (numbers tags) n ≡ true
    here true e = refl
    here false e = e

-- what is missing isn't a number that a tag has
pub missing_behind : (tags : List Tag) (wanted : List ℕ) (k : ℕ) → k < length wanted → is_among (numbers tags) (get_or wanted k 0) ≡ true → find (λ n. not (is_among (numbers tags) n)) (drop k wanted) ≡ find (λ n. not (is_among (numbers tags) n)) (drop (k + 1) wanted)
missing_behind tags [] k lt e = absurd (omega (arith, lt))
missing_behind tags (n ∷ wanted) zero lt e = here (is_among (numbers tags) n) e
  where
    here : (b : Bool) → b ≡ true → cond (not b) (Some n) (find (λ m. not (is_among (numbers tags) m)) wanted) ≡ find (λ m. not (is_among (numbers tags) m)) wanted
    here true e = refl
    here false e = absurd cc
missing_behind tags (n ∷ wanted) (suc k) lt e =
    let same : suc (k + 1) ≡ suc k + 1 = omega arith in
    let P : ℕ → Type 0 = λ j. find (λ m. not (is_among (numbers tags) m)) (drop k wanted) ≡ find (λ m. not (is_among (numbers tags) m)) (drop j (n ∷ wanted)) in
    subst P same (missing_behind tags wanted k (omega (arith, lt)) e)
