-- What is known of a tag that is read in part, once its bytes are forgotten: its number and how much of each part was read.
use Rattle.std.specs.Prelude.{◌≡◌, ℕ, ◌+◌, ◌<◌, Bool, true, false, List, [], ◌∷◌, ◌++◌, length, take, Option, Some, None, MatchOption}
use Rattle.faim_base.specs.Tags.{is_tag_number}
use Rattle.faim_tags.specs.Spelling.{braced}
use Rattle.faim_tags.specs.Reading.{is_among}
use Rattle.faim_tags.specs.Steps.{Progress, InNumber, Inside, numbers_begin, steps, Stuck, may_end, tag_of}
use Rattle.faim_tags.specs.declared.partial.TagPart.{TagPart}
use Rattle.faim_tags.specs.declared.partial.TagPart.TheVariants.{Number, Elements}

-- the part is what is known of this much of a tag that has one of the numbers
abbrev pub StandsFor : List ℕ → TagPart → Progress → Type 0
StandsFor numbers (Number like count) (InNumber given) = (count < 6) × (given ≡ take count (braced like)) × (0 < count → is_among numbers like ≡ true)
StandsFor numbers (Number like count) (Inside n fs ss last) = ⊥
StandsFor numbers (Elements number fixed stars part) (InNumber given) = ⊥
StandsFor numbers (Elements number fixed stars part) (Inside n fs ss last) = (number ≡ n) × (fixed ≡ length fs) × (stars ≡ length ss) × (part ≡ length last)

-- nothing is read
abbrev pub is_start : Progress → Bool
is_start (InNumber []) = true
is_start (InNumber (b ∷ given)) = false
is_start (Inside n fs ss last) = false

-- both go on, or neither does
abbrev pub BothStand : List ℕ → Option TagPart → Option Progress → Type 0
BothStand numbers None None = Unit {0}
BothStand numbers None (Some p) = ⊥
BothStand numbers (Some t) None = ⊥
BothStand numbers (Some t) (Some p) = StandsFor numbers t p

-- the number of the tag that may end here, none where none may
abbrev pub EndsAs : Option ℕ → Progress → Type 0
EndsAs found p = MatchOption found (may_end p ≡ false) (λ n. (may_end p ≡ true) × (n ≡ (tag_of p).no))

-- one of the numbers begins in braces as another number does, and then with the byte
pub record NextNumber (ns : List ℕ) (like count b n : ℕ) : Type 0 where
  pub few : count < 6
  pub among : is_among ns n ≡ true
  pub listed : is_tag_number n ≡ true
  pub begins : numbers_begin ns (take count (braced like) ++ b ∷ []) ≡ true
  pub front : take (count + 1) (braced n) ≡ take count (braced like) ++ b ∷ []

-- bytes are read up to a place, and the part is what is known there
pub record Reads (numbers : List ℕ) (p : Progress) (bytes : List ℕ) (k : ℕ) (part : TagPart) : Type 0 where
  pub last : Progress
  pub run : steps numbers p (take k bytes) ≡ Some last
  pub stands : StandsFor numbers part last

-- the same, and no tag that has one of the numbers goes on with the next byte
pub record Reaches (numbers : List ℕ) (p : Progress) (bytes : List ℕ) (k : ℕ) (part : TagPart) : Type 0 where
  pub last : Progress
  pub stuck : Stuck numbers p bytes k last
  pub stands : StandsFor numbers part last
