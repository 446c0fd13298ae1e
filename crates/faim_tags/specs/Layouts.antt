-- What each tag holds (docs/FORMATS.md, "Tags").
use Rattle.std.specs.Prelude.{ℕ, ◌+◌, ◌==◌, ◌&&◌, nat_lt, Bool, true, List, [], ◌∷◌, length, map, sum, replicate, if◌then◌else◌}
use Rattle.std.specs.List.{find, flat_map}
use Rattle.std.specs.Option.{unwrap_or}
use Rattle.faim_base.specs.Text.{is_text_byte, is_digit}

-- a tag's number, its fixed elements, each with its class and its length, and the greatest lengths of its star elements
pub record Row : Type 0 where
  pub number : ℕ
  pub elements : List (ℕ × ℕ)
  pub most : List ℕ

-- so many digits: the letter n names their class
abbrev pub digits : ℕ → ℕ × ℕ
digits length = (110, length)

-- so many text bytes: the letter t names their class
abbrev pub text : ℕ → ℕ × ℕ
text length = (116, length)

-- an identification code, an identifier, a name and three lines
abbrev pub party : ℕ → Row
party n = record { number = n; elements = text 1 ∷ []; most = 34 ∷ 35 ∷ 35 ∷ 35 ∷ 35 ∷ [] }

-- six lines for one of the banks
abbrev pub notice : ℕ → Row
notice n = record { number = n; elements = []; most = 30 ∷ 33 ∷ 33 ∷ 33 ∷ 33 ∷ 33 ∷ [] }

-- an advice code and six lines
abbrev pub advice : ℕ → Row
advice n = record { number = n; elements = text 3 ∷ []; most = 26 ∷ 33 ∷ 33 ∷ 33 ∷ 33 ∷ 33 ∷ [] }

-- a bank's number and its short name
abbrev pub bank : ℕ → Row
bank n = record { number = n; elements = digits 9 ∷ []; most = 18 ∷ [] }

-- one star element
abbrev pub remark : ℕ → ℕ → Row
remark n length = record { number = n; elements = []; most = length ∷ [] }

-- fixed elements alone
abbrev pub plain : ℕ → List (ℕ × ℕ) → Row
plain n elements = record { number = n; elements = elements; most = [] }

-- lines of free text
abbrev pub lines : ℕ → ℕ → Row
lines n count = record { number = n; elements = []; most = replicate count 35 }

-- the 34 rows, in the order of their numbers
abbrev pub rows : List Row
rows =
    plain 1100 (text 2 ∷ text 1 ∷ text 1 ∷ text 1 ∷ [])
    ∷ plain 1110 (digits 4 ∷ digits 4 ∷ text 4 ∷ [])
    ∷ plain 1120 (digits 8 ∷ text 8 ∷ digits 6 ∷ digits 4 ∷ digits 4 ∷ text 4 ∷ [])
    ∷ record { number = 1130; elements = text 1 ∷ digits 3 ∷ []; most = 35 ∷ [] }
    ∷ plain 1500 (text 2 ∷ text 8 ∷ text 1 ∷ text 1 ∷ [])
    ∷ plain 1510 (digits 2 ∷ digits 2 ∷ [])
    ∷ plain 1520 (digits 8 ∷ text 8 ∷ digits 6 ∷ [])
    ∷ plain 2000 (digits 12 ∷ [])
    ∷ bank 3100
    ∷ remark 3320 16
    ∷ bank 3400
    ∷ remark 3500 22
    ∷ record { number = 3600; elements = text 3 ∷ []; most = 3 ∷ [] }
    ∷ party 4000
    ∷ party 4100
    ∷ party 4200
    ∷ remark 4320 16
    ∷ party 4400
    ∷ party 5000
    ∷ party 5100
    ∷ party 5200
    ∷ plain 5400 (digits 9 ∷ [])
    ∷ lines 6000 4
    ∷ notice 6100
    ∷ advice 6110
    ∷ notice 6200
    ∷ advice 6210
    ∷ notice 6300
    ∷ advice 6310
    ∷ notice 6400
    ∷ advice 6410
    ∷ record { number = 6420; elements = text 5 ∷ []; most = 30 ∷ [] }
    ∷ lines 6500 6
    ∷ lines 9000 12
    ∷ []

-- the row of a number; a number that isn't there has no elements
unfoldable pub row_of : ℕ → Row
row_of n = unwrap_or (find (λ r. r.number == n) rows) (plain n [])

-- the class of each byte of fixed elements
abbrev pub each_class : List (ℕ × ℕ) → List ℕ
each_class elements = flat_map (λ e. replicate e.1 e.0) elements

-- the class of each byte of a tag's fixed elements, joined
abbrev pub classes : ℕ → List ℕ
classes n = each_class (row_of n).elements

-- the greatest length of each star element of a tag
abbrev pub maxima : ℕ → List ℕ
maxima n = (row_of n).most

-- a digit for the class n, a text byte for every other
abbrev pub is_of_class : ℕ → ℕ → Bool
is_of_class class byte = if class == 110 then is_digit byte else is_text_byte byte

-- the bytes of the longest spelling of a row's tag: its number in braces, its fixed bytes, and each star element with its star
abbrev pub longest : Row → ℕ
longest r = 6 + length (each_class r.elements) + sum (map (λ m. m + 1) r.most)

-- each number is above the one before it
abbrev pub ascends : List ℕ → Bool
ascends [] = true
ascends (n ∷ []) = true
ascends (n ∷ m ∷ more) = nat_lt n m && ascends (m ∷ more)
