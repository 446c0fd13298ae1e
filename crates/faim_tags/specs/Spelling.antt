-- How a tag is spelled (docs/FORMATS.md, "Tags").
use Rattle.std.specs.Prelude.{◌≡◌, ℕ, ◌+◌, ◌/◌, ◌%◌, ◌==◌, ◌&&◌, ◌||◌, not, nat_le, Bool, true, false, List, [], ◌∷◌, ◌++◌, length, if◌then◌else◌}
use Rattle.std.specs.List.{list_all}
use lib.Pointwise.{pointwise}
use Rattle.faim_base.specs.Tags.{is_tag_number}
use Rattle.faim_base.specs.Text.{is_text_byte}
use Rattle.faim_tags.specs.Layouts.{classes, maxima, is_of_class}

-- a tag: its number, its fixed elements joined, its star elements without their stars, and whether the last has its star
pub record Tag : Type 0 where
  pub no : ℕ
  pub fixed : List ℕ
  pub stars : List (List ℕ)
  pub closed : Bool

-- as many bytes as classes, each of its class
abbrev pub fill : List ℕ → List ℕ → Bool
fill classes bytes = pointwise is_of_class classes bytes

-- at most so many text bytes
abbrev pub fits : ℕ → List ℕ → Bool
fits most star = nat_le (length star) most && list_all is_text_byte star

-- each star element fits, and one that is last without its star has its greatest length; none is closed where there is none
abbrev pub all_fit : List ℕ → List (List ℕ) → Bool → Bool
all_fit most [] closed = not closed
all_fit [] (s ∷ stars) closed = false
all_fit (m ∷ most) (s ∷ []) closed = fits m s && (closed || (length s == m))
all_fit (m ∷ most) (s ∷ t ∷ stars) closed = fits m s && all_fit most (t ∷ stars) closed

-- there is none
abbrev pub is_empty : {X : Type 0} → List X → Bool
is_empty [] = true
is_empty (x ∷ xs) = false

-- a tag of the format: its elements are those of its number, and it has one at least
pub record IsTag (v : Tag) : Type 0 where
  pub listed : is_tag_number v.no ≡ true
  pub filled : fill (classes v.no) v.fixed ≡ true
  pub fitting : all_fit (maxima v.no) v.stars v.closed ≡ true
  pub something : is_empty (classes v.no) && is_empty v.stars ≡ false

-- a number in braces, with four digits
abbrev pub braced : ℕ → List ℕ
braced n = 123 ∷ (48 + n / 1000) ∷ (48 + n / 100 % 10) ∷ (48 + n / 10 % 10) ∷ (48 + n % 10) ∷ 125 ∷ []

-- each star element followed by a star, the last only where it is closed
abbrev pub starred : List (List ℕ) → Bool → List ℕ
starred [] closed = []
starred (s ∷ []) closed = s ++ (if closed then 42 ∷ [] else [])
starred (s ∷ t ∷ stars) closed = s ++ 42 ∷ starred (t ∷ stars) closed

-- the bytes of a tag
abbrev pub spelling : Tag → List ℕ
spelling v = braced v.no ++ v.fixed ++ starred v.stars v.closed

-- these bytes spell this tag
pub record SpellsTag (v : Tag) (bytes : List ℕ) : Type 0 where
  pub sound : IsTag v
  pub spelled : bytes ≡ spelling v
