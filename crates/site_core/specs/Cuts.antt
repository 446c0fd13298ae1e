-- Places across which no read goes.
use Rattle.std.specs.Prelude.{◌≡◌, ◌⊎◌, ℕ, ◌+◌, ◌≤◌, ◌<◌, min, List, length, slice_index, Contains}

-- no cut lies strictly between the two places
abbrev pub NoCutBetween : List ℕ → ℕ → ℕ → Type 0
NoCutBetween cuts at end = (k : ℕ) → k < length cuts → (slice_index cuts k ≤ at) ⊎ (end ≤ slice_index cuts k)

-- a read from a place goes as far as the limit or to the first cut after the place, and so at least one byte
pub record ReadEnds (cuts : List ℕ) (at limit end : ℕ) : Type 0 where
  pub some : min (at + 1) limit ≤ end
  pub within : end ≤ limit
  pub apart : NoCutBetween cuts at end
  pub reason : (end ≡ limit) ⊎ Contains cuts end
