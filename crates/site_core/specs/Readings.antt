-- The readings of a clock.
use Rattle.std.specs.Prelude.{◌≡◌, ℕ, ◌-◌, min, List, [], ◌∷◌, ◌++◌, length, take, replicate, slice_index, Option, Result, MatchResult}
use Rattle.std.specs.Io.KnownBytes.{append_known}

-- the readings given grew by this one at `Ok`, and by none at `Err`; a clock goes on telling, or telling nothing
abbrev pub ReadingAppends : {E : Type 0} → Option (List ℕ) → Option (List ℕ) → Result ℕ E → Type 0
ReadingAppends old new result = MatchResult result (λ reading. new ≡ append_known old (reading ∷ [])) (λ _. new ≡ old)

-- the reading at a place, counted from 0, and past the end the last one
abbrev pub reading_at : List ℕ → ℕ → ℕ
reading_at readings k = slice_index readings (min k (length readings - 1))

-- the first n readings: the list in order, and then its last one again and again
abbrev pub first_readings : List ℕ → ℕ → List ℕ
first_readings readings n = take n readings ++ replicate (n - length readings) (slice_index readings (length readings - 1))
