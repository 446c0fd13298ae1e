-- What a reader answers to bytes at whose front a tag is wanted (docs/FORMATS.md, "Tags").
use Rattle.std.specs.Prelude.{◌≡◌, ℕ, ◌<◌, ◌≤◌, ◌==◌, ◌||◌, not, Bool, true, List, [], ◌∷◌, ◌++◌, length, take, drop}
use Rattle.std.specs.List.{list_any}
use Rattle.faim_base.specs.Text.{is_text_byte}
use Rattle.faim_base.specs.declared.judgement.Refused.{Refused}
use Rattle.faim_base.specs.declared.judgement.Refused.TheVariants.{Byte, Cut, Missing, NoMemory}
use Rattle.faim_tags.specs.Spelling.{Tag, IsTag, SpellsTag, spelling}

-- the number is one of these
abbrev pub is_among : List ℕ → ℕ → Bool
is_among numbers n = list_any (λ m. m == n) numbers

-- a byte that may stand in a star element or end it
abbrev pub goes_on : ℕ → Bool
goes_on byte = is_text_byte byte || (byte == 42)

-- the bytes are over, or the next of them belongs to no tag
abbrev pub is_past : List ℕ → Bool
is_past [] = true
is_past (b ∷ bytes) = not (goes_on b)

-- the first n bytes spell a tag that has one of the numbers, and it is over there
pub record FoundTag (numbers bytes : List ℕ) (v : Tag) (n : ℕ) : Type 0 where
  pub within : n ≤ length bytes
  pub tag : SpellsTag v (take n bytes)
  pub known : is_among numbers v.no ≡ true
  pub past : is_past (drop n bytes) ≡ true

-- some spelling of a tag that has one of the numbers goes on from these bytes
pub record BeginsTag (numbers bytes : List ℕ) : Type 0 where
  pub tag : Tag
  pub sound : IsTag tag
  pub known : is_among numbers tag.no ≡ true
  pub rest : List ℕ
  pub goes : spelling tag ≡ bytes ++ rest

-- the first p bytes begin a tag, and no more of them do
pub record StopsAt (numbers bytes : List ℕ) (p : ℕ) : Type 0 where
  pub short : p < length bytes
  pub begins : BeginsTag numbers (take p bytes)
  pub longest : (k : ℕ) → k ≤ length bytes → BeginsTag numbers (take k bytes) → k ≤ p

-- no tag stands at the front
abbrev pub NoTag : List ℕ → List ℕ → Type 0
NoTag numbers bytes = (v : Tag) (n : ℕ) → FoundTag numbers bytes v n → ⊥

-- why no tag is read: the place of the first byte with which none goes on, or an end inside one
abbrev pub RefusesTag : List ℕ → List ℕ → Refused → Type 0
RefusesTag numbers bytes (Byte p) = StopsAt numbers bytes p × NoTag numbers bytes
RefusesTag numbers bytes Cut = BeginsTag numbers bytes × NoTag numbers bytes
RefusesTag numbers bytes (Missing n) = ⊥
RefusesTag numbers bytes NoMemory = Unit {0}
