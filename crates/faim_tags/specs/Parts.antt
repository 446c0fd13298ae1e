-- The parts of a tag as they stand at the front of bytes. No law cites them: they serve the reader of one tag alone.
use Rattle.std.specs.Prelude.{◌≡◌, ℕ, suc, ◌-◌, ◌≤◌, ◌==◌, true, List, [], ◌∷◌, length, take, drop, replicate, if◌then◌else◌, slice_index}
use Rattle.std.specs.Int.{w64, trailing_zeros}
use Rattle.faim_base.specs.Tags.{is_tag_number}
use Rattle.faim_tags.specs.Layouts.{is_of_class}
use Rattle.faim_tags.specs.Spelling.{braced}
use Rattle.faim_tags.specs.Reading.{is_among}

-- how many bytes at the front are of these classes, one after another
abbrev pub run_length : List ℕ → List ℕ → ℕ
run_length [] bytes = 0
run_length (c ∷ more) [] = 0
run_length (c ∷ more) (b ∷ bytes) = if is_of_class c b then suc (run_length more bytes) else 0

-- how many text bytes stand at the front, up to a number of them
abbrev pub text_length : ℕ → List ℕ → ℕ
text_length most bytes = run_length (replicate most 116) bytes

-- how many digits stand at the front, up to a number of them
abbrev pub digits_length : ℕ → List ℕ → ℕ
digits_length most bytes = run_length (replicate most 110) bytes

-- the place of the lowest bit that is set, or n
abbrev pub first_set : ℕ → ℕ → ℕ
first_set mask n = if mask == 0 then n else trailing_zeros w64 mask

-- the star elements at the front that have their star
abbrev pub closed_stars : List ℕ → List ℕ → List (List ℕ)
closed_stars [] bytes = []
closed_stars (m ∷ most) bytes =
    if slice_index bytes (text_length m bytes) == 42 then take (text_length m bytes) bytes ∷ closed_stars most (drop (suc (text_length m bytes)) bytes)
    else []

-- the bytes of the number in braces stand at the front, but for the first ones, at most one of them
pub record FollowsBrace (numbers : List ℕ) (count : ℕ) (bytes : List ℕ) (n : ℕ) : Type 0 where
  pub few : count ≤ 1
  pub within : 6 - count ≤ length bytes
  pub listed : is_tag_number n ≡ true
  pub among : is_among numbers n ≡ true
  pub front : take (6 - count) bytes ≡ drop count (braced n)
