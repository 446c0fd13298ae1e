-- A tag that stands at the front of bytes, and its star elements.
use Rattle.std.specs.Prelude.{◌≡◌, ℕ, ◌+◌, ◌≤◌, true, List, length, drop, slice_index}
use Rattle.faim_tags.specs.Spelling.{Tag, starred}
use Rattle.faim_tags.specs.Reading.{FoundTag}
use Rattle.faim_tags.specs.Parts.{text_length, closed_stars}

-- a tag that has one of some numbers stands at the front
pub record TagInFront (bytes : List ℕ) : Type 0 where
  pub numbers : List ℕ
  pub tag : Tag
  pub size : ℕ
  pub found : FoundTag numbers bytes tag size

-- the star elements at the front that have their star, how many bytes they take with their stars, and how many text bytes stand
-- of a further one
pub record StarsCut (most bytes : List ℕ) (stars : List (List ℕ)) (taken count : ℕ) : Type 0 where
  pub closed : stars ≡ closed_stars most bytes
  pub all : taken ≡ length (starred stars true)
  pub more : count ≡ text_length (slice_index most (length stars)) (drop taken bytes)
  pub within : taken + count ≤ length bytes
