-- What may come next in a tag, byte by byte: the law `steps_tell_what_begins` pins it to what begins a tag.
use Rattle.std.specs.Prelude.{◌≡◌, ℕ, ◌+◌, ◌*◌, ◌-◌, ◌<◌, ◌≤◌, ◌==◌, ◌&&◌, nat_lt, nat_eq, not, Bool, true, false, List, [], ◌∷◌, ◌++◌, length, take, drop, slice_index, Option, Some, None, if◌then◌else◌}
use Rattle.std.specs.List.{list_any, starts_with}
use Rattle.faim_base.specs.Text.{is_text_byte}
use Rattle.faim_tags.specs.Layouts.{classes, maxima, is_of_class}
use Rattle.faim_base.specs.declared.judgement.Refused.{Refused}
use Rattle.faim_base.specs.declared.judgement.Refused.TheVariants.{Byte, Cut, Missing, NoMemory}
use Rattle.faim_tags.specs.Spelling.{Tag, braced, starred, is_empty}
use Rattle.faim_tags.specs.Reading.{goes_on, is_past}

-- how far a tag is read: bytes of its number in braces; or its number, fixed bytes, the star elements that have their star, and the
-- bytes of the next one
pub data Progress : Type 0 where
  InNumber : (given : List ℕ) → Progress
  Inside : (number : ℕ) (fixed : List ℕ) (stars : List (List ℕ)) (part : List ℕ) → Progress

-- one of the numbers begins so in braces
abbrev pub numbers_begin : List ℕ → List ℕ → Bool
numbers_begin numbers given = list_any (λ n. starts_with nat_eq (braced n) given) numbers

-- the number in braces
abbrev pub number_in : List ℕ → ℕ
number_in (o ∷ a ∷ b ∷ c ∷ d ∷ more) = 1000 * (a - 48) + 100 * (b - 48) + 10 * (c - 48) + (d - 48)
number_in given = 0

-- what bytes make that begin a number in braces: part of it, or the whole, after which the elements come
abbrev pub with_number : List ℕ → List ℕ → Option Progress
with_number numbers given = if numbers_begin numbers given then Some (if length given == 6 then Inside (number_in given) [] [] [] else InNumber given) else None

-- what the next byte makes of it, where some tag goes on with it
abbrev pub step : List ℕ → Progress → ℕ → Option Progress
step numbers (InNumber given) b = with_number numbers (given ++ b ∷ [])
step numbers (Inside n fixed stars part) b =
    if nat_lt (length fixed) (length (classes n)) then (if is_of_class (slice_index (classes n) (length fixed)) b then Some (Inside n (fixed ++ b ∷ []) stars part) else None)
    else (if b == 42 then (if nat_lt (length stars) (length (maxima n)) then Some (Inside n fixed (stars ++ part ∷ []) []) else None)
    else (if is_text_byte b && nat_lt (length part) (slice_index (maxima n) (length stars)) then Some (Inside n fixed stars (part ++ b ∷ [])) else None))

-- what bytes make of it, one after another
abbrev pub steps : List ℕ → Progress → List ℕ → Option Progress
steps numbers p [] = Some p
steps numbers p (b ∷ bytes) = elim (step numbers p b) [
  | None ↦ None
  | Some q ↦ steps numbers q bytes
]

-- a tag may end here
abbrev pub may_end : Progress → Bool
may_end (InNumber given) = false
may_end (Inside n fixed stars part) =
    if nat_lt (length fixed) (length (classes n)) then false
    else (if is_empty part then not (is_empty (classes n) && is_empty stars) else length part == slice_index (maxima n) (length stars))

-- the tag that was read
abbrev pub tag_of : Progress → Tag
tag_of (InNumber given) = record { no = 0; fixed = []; stars = []; closed = false }
tag_of (Inside n fixed stars part) =
    if is_empty part then record { no = n; fixed = fixed; stars = stars; closed = not (is_empty stars) }
    else record { no = n; fixed = fixed; stars = stars ++ part ∷ []; closed = false }

-- the bytes that were read
abbrev pub read_so_far : Progress → List ℕ
read_so_far (InNumber given) = given
read_so_far (Inside n fixed stars part) = braced n ++ fixed ++ starred stars true ++ part

-- bytes are read up to a place, and none goes on with the next byte
pub record Stuck (numbers : List ℕ) (p : Progress) (bytes : List ℕ) (k : ℕ) (last : Progress) : Type 0 where
  pub within : k ≤ length bytes
  pub run : steps numbers p (take k bytes) ≡ Some last
  pub none : k < length bytes → step numbers last (slice_index bytes k) ≡ None

-- from this progress on, the first k bytes complete a tag, and it is over there
pub record Completes (numbers : List ℕ) (p : Progress) (bytes : List ℕ) (v : Tag) (k : ℕ) : Type 0 where
  pub within : k ≤ length bytes
  pub last : Progress
  pub run : steps numbers p (take k bytes) ≡ Some last
  pub tag : tag_of last ≡ v
  pub may : may_end last ≡ true
  pub past : is_past (drop k bytes) ≡ true

-- the byte at place k is the first with which no tag goes on
pub record BarredAt (numbers : List ℕ) (p : Progress) (bytes : List ℕ) (k : ℕ) : Type 0 where
  pub short : k < length bytes
  pub last : Progress
  pub run : steps numbers p (take k bytes) ≡ Some last
  pub none : step numbers last (slice_index bytes k) ≡ None
  pub on : may_end last ≡ true → goes_on (slice_index bytes k) ≡ true

-- the bytes end inside a tag
pub record Halts (numbers : List ℕ) (p : Progress) (bytes : List ℕ) : Type 0 where
  pub last : Progress
  pub run : steps numbers p bytes ≡ Some last
  pub inside : may_end last ≡ false

-- why no tag is completed
abbrev pub Fails : List ℕ → Progress → List ℕ → Refused → Type 0
Fails numbers p bytes (Byte k) = BarredAt numbers p bytes k
Fails numbers p bytes Cut = Halts numbers p bytes
Fails numbers p bytes (Missing n) = ⊥
Fails numbers p bytes NoMemory = Unit {0}
