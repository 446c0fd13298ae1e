-- Sums and counts over a list. The first item is the last summand, as the newest entry of a list stands first.
use Rattle.std.specs.Prelude.{ℕ, ◌+◌, Bool, List, [], ◌∷◌, if◌then◌else◌, ℤ, pos, ◌+ℤ◌}

-- the sum of a function over a list
abbrev pub summed : {A : Type 0} → (A → ℕ) → List A → ℕ
summed f [] = 0
summed f (x ∷ xs) = summed f xs + f x

-- the sum of a function whose values may be negative
abbrev pub total : {A : Type 0} → (A → ℤ) → List A → ℤ
total f [] = pos 0
total f (x ∷ xs) = total f xs +ℤ f x

-- how many items pass a test
abbrev pub counted : {A : Type 0} → (A → Bool) → List A → ℕ
counted p xs = summed (λ x. if p x then 1 else 0) xs
