-- The members of a list.
use Rattle.std.proofs.Common.{◌≡◌, ◌⊎◌, ⊎_elim, inl, inr, subst, sym, ℕ, ◌<◌, List, [], ◌∷◌, ◌++◌, get_or, refl, arith}
use Rattle.std.specs.List.{Contains}
use Rattle.std.proofs.lemmas.List.Elements.{Contains-append_cases, Contains-append_right}

pub none_in : {A : Type 0} (y : A) → Contains [] y → ⊥
none_in y there = let below : there.0 < 0 = there.1 in absurd (omega arith)

only_one : {A : Type 0} (x y : A) → Contains (x ∷ []) y → y ≡ x
only_one x y there =
    let at_front : there.0 ≡ 0 = let below : there.0 < 1 = there.1 in omega arith in
    sym (subst (λ (k : ℕ). get_or (x ∷ []) k y ≡ y) at_front there.2)

-- a member is the first item or one after it
pub first_or_later : {A : Type 0} (x y : A) (xs : List A) → Contains (x ∷ xs) y → (y ≡ x) ⊎ Contains xs y
first_or_later x y xs there =
    ⊎_elim (λ here. inl (only_one x y here)) (λ later. inr later) (Contains-append_cases (x ∷ []) xs y there)

-- or it is one before the last or the last
pub before_or_last : {A : Type 0} (x y : A) (xs : List A) → Contains (xs ++ x ∷ []) y → Contains xs y ⊎ (y ≡ x)
before_or_last x y xs there = ⊎_elim (λ before. inl before) (λ here. inr (only_one x y here)) (Contains-append_cases xs (x ∷ []) y there)

pub first_in : {A : Type 0} (x : A) (xs : List A) → Contains (x ∷ xs) x
first_in x xs = (0, omega arith, refl)

pub later_in : {A : Type 0} (x y : A) (xs : List A) → Contains xs y → Contains (x ∷ xs) y
later_in x y xs there = Contains-append_right (x ∷ []) xs y there
