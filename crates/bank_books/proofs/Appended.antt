-- What stands at a place of a list with one item more.
use Rattle.std.proofs.Common.{◌≡◌, ◌⊎◌, inl, inr, refl, ℕ, zero, suc, ap, List, [], ◌∷◌, ◌++◌, length, Some}
use Rattle.std.specs.List.{slice_get}

-- it stood there before, or it is the last
pub old_or_last : {A : Type 0} (xs : List A) (y : A) (k : ℕ) (r : A) → slice_get (xs ++ y ∷ []) k ≡ Some r → (slice_get xs k ≡ Some r) ⊎ ((k ≡ length xs) × (r ≡ y))
old_or_last [] y zero r is = let same : r ≡ y = cc in inr (refl, same)
old_or_last [] y (suc k) r is = absurd cc
old_or_last (x ∷ xs) y zero r is = inl is
old_or_last (x ∷ xs) y (suc k) r is = later (old_or_last xs y k r is)
  where
    later : (slice_get xs k ≡ Some r) ⊎ ((k ≡ length xs) × (r ≡ y)) → (slice_get xs k ≡ Some r) ⊎ ((suc k ≡ suc (length xs)) × (r ≡ y))
    later (inl old) = inl old
    later (inr last) = inr (ap suc last.0, last.1)

pub still_there : {A : Type 0} (xs ys : List A) (k : ℕ) (r : A) → slice_get xs k ≡ Some r → slice_get (xs ++ ys) k ≡ Some r
still_there [] ys k r is = absurd cc
still_there (x ∷ xs) ys zero r is = is
still_there (x ∷ xs) ys (suc k) r is = still_there xs ys k r is

pub last_there : {A : Type 0} (xs : List A) (y : A) → slice_get (xs ++ y ∷ []) (length xs) ≡ Some y
last_there [] y = refl
last_there (x ∷ xs) y = last_there xs y
