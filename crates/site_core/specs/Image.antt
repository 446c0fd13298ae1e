-- What a write does to an image, and what a stop may make of one.
use Rattle.std.specs.Prelude.{◌≡◌, ◌⊎◌, ℕ, ◌+◌, ◌-◌, ◌≤◌, ◌<◌, List, [], ◌∷◌, ◌++◌, length, take, drop, replicate, slice_index}

-- the image with these bytes at a place; a gap in front of them is filled up; no bytes change nothing
abbrev pub put : ℕ → List ℕ → ℕ → List ℕ → List ℕ
put filler image at [] = image
put filler image at (b ∷ bytes) = take at image ++ replicate (at - length image) filler ++ (b ∷ bytes) ++ drop (at + length (b ∷ bytes)) image

-- any bytes in a range of n bytes at a place, and anything from the firm size on; all other bytes stay
pub record Torn (at n firm : ℕ) (old new : List ℕ) : Type 0 where
  pub long : firm ≤ length new
  pub same : (k : ℕ) → k < firm → (k < at) ⊎ (at + n ≤ k) → slice_index new k ≡ slice_index old k
