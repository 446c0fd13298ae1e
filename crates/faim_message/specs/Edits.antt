-- The edit table: what a submission must meet beyond its form (docs/FORMATS.md, "Edits").
use Rattle.std.specs.Prelude.{ℕ, ◌==◌, ◌||◌, not, Bool, List, [], ◌∷◌, take, drop, map, codes, bytes_eq, slice_index, Option, is_some, option_map}
use Rattle.std.specs.List.{find, list_any, list_all}
use Rattle.std.specs.Option.{option_map_or}
use Rattle.faim_base.specs.Digits.{number_of}
use Rattle.faim_base.specs.Text.{aba_holds}
use Rattle.faim_tags.specs.Reading.{is_among}
use Rattle.faim_message.specs.Spelling.{Content}
use Rattle.faim_message.specs.Heads.{fixed_in}

-- a business function code and the types and subtypes that it permits, each read as one number of four digits
pub record Permitted : Type 0 where
  pub code : List ℕ
  pub kinds : List ℕ

abbrev pub permits : List ℕ → List ℕ → Permitted
permits code kinds = record { code = code; kinds = kinds }

-- the ten codes
abbrev pub permitted_kinds : List Permitted
permitted_kinds =
    permits (codes "BTR") (1000 ∷ 1002 ∷ 1008 ∷ 1500 ∷ 1502 ∷ 1508 ∷ 1600 ∷ 1602 ∷ 1608 ∷ [])
    ∷ permits (codes "CKS") (1600 ∷ 1602 ∷ 1608 ∷ [])
    ∷ permits (codes "CTR") (1000 ∷ 1002 ∷ 1008 ∷ 1500 ∷ 1502 ∷ 1508 ∷ 1600 ∷ 1602 ∷ 1608 ∷ [])
    ∷ permits (codes "DEP") (1600 ∷ 1602 ∷ 1608 ∷ [])
    ∷ permits (codes "DRB") (1031 ∷ 1631 ∷ [])
    ∷ permits (codes "DRC") (1031 ∷ 1631 ∷ [])
    ∷ permits (codes "DRW") (1032 ∷ 1632 ∷ [])
    ∷ permits (codes "FFR") (1600 ∷ 1602 ∷ 1608 ∷ [])
    ∷ permits (codes "FFS") (1600 ∷ 1602 ∷ 1608 ∷ [])
    ∷ permits (codes "SVC") (1001 ∷ 1007 ∷ 1033 ∷ 1090 ∷ 1501 ∷ 1507 ∷ 1590 ∷ 1601 ∷ 1607 ∷ 1633 ∷ 1690 ∷ [])
    ∷ []

-- what a code permits, nothing where it isn't one of the ten
abbrev pub kinds_for : List ℕ → List ℕ
kinds_for code = option_map_or (λ p. p.kinds) (find (λ p. bytes_eq p.code code) permitted_kinds) []

-- the parts of a message that edits speak of: the fixed bytes of its tags, and numbers in them
abbrev pub version : Content → List ℕ
version m = take 2 (fixed_in m.tags 1500)

abbrev pub test_or_production : Content → ℕ
test_or_production m = slice_index (fixed_in m.tags 1500) 10

abbrev pub mark : Content → ℕ
mark m = slice_index (fixed_in m.tags 1500) 11

abbrev pub code : Content → List ℕ
code m = fixed_in m.tags 3600

abbrev pub kind : Content → ℕ
kind m = number_of (fixed_in m.tags 1510)

abbrev pub subtype : Content → ℕ
subtype m = number_of (drop 2 (fixed_in m.tags 1510))

abbrev pub amount : Content → ℕ
amount m = number_of (fixed_in m.tags 2000)

abbrev pub id_code : ℕ → Content → ℕ
id_code n m = slice_index (fixed_in m.tags n) 0

-- tests of a message: a tag with this number is there, the code is one of these, the subtype is
abbrev pub has : ℕ → Content → Bool
has n m = is_some (find (λ v. v.no == n) m.tags)

abbrev pub has_code : List (List ℕ) → Content → Bool
has_code these m = list_any (λ c. bytes_eq c (code m)) these

abbrev pub has_subtype : List ℕ → Content → Bool
has_subtype these m = is_among these (subtype m)

-- where the first holds, so does the second
infixr 4 ◌⇒◌
abbrev pub ◌⇒◌ : (Content → Bool) → (Content → Bool) → Content → Bool
(first ⇒ second) m = not (first m) || second m

-- each of these tags that is there has an identification code among those
abbrev pub has_id_codes : List ℕ → List ℕ → Content → Bool
has_id_codes tags those m = list_all (λ n. (has n ⇒ λ w. is_among those (id_code n w)) m) tags

-- the codes that send or ask for a drawdown, and service messages
abbrev pub drawdown_or_service : List (List ℕ)
drawdown_or_service = codes "DRB" ∷ codes "DRC" ∷ codes "DRW" ∷ codes "SVC" ∷ []

-- an edit: its number, and the condition that a message must meet
pub record Edit : Type 0 where
  pub number : ℕ
  pub holds : Content → Bool

abbrev pub row : ℕ → (Content → Bool) → Edit
row number holds = record { number = number; holds = holds }

-- the edits of a host's test or production line, in the order in which they are tried
abbrev pub edits : ℕ → List Edit
edits env =
    row 101 (λ m. bytes_eq (version m) (codes "30"))
    ∷ row 102 (λ m. test_or_production m == env)
    ∷ row 103 (λ m. is_among (codes " P") (mark m))
    ∷ row 104 (has_code (map (λ p. p.code) permitted_kinds))
    ∷ row 105 (λ m. is_among (kinds_for (code m)) (kind m))
    ∷ row 106 (λ m. aba_holds (fixed_in m.tags 3100))
    ∷ row 107 (λ m. aba_holds (fixed_in m.tags 3400))
    ∷ row 108 (λ m. not (amount m == 0) || has_subtype (90 ∷ []) m)
    ∷ row 109 (has_code (codes "CTR" ∷ []) ⇒ has 4200)
    ∷ row 110 (has_code (codes "CTR" ∷ []) ⇒ has 5000)
    ∷ row 111 (has_code (codes "DRB" ∷ codes "DRC" ∷ []) ⇒ has 4400)
    ∷ row 112 (has_subtype (1 ∷ 2 ∷ 7 ∷ 8 ∷ []) ⇒ has 3500)
    ∷ row 113 (has 9000 ⇒ has_code (codes "SVC" ∷ []))
    ∷ row 114 (has 4400 ⇒ has_code drawdown_or_service)
    ∷ row 115 (has 5400 ⇒ has_code drawdown_or_service)
    ∷ row 116 (has 6110 ⇒ has_code drawdown_or_service)
    ∷ row 117 (has_id_codes (4000 ∷ 4100 ∷ 4200 ∷ 4400 ∷ 5000 ∷ 5100 ∷ 5200 ∷ []) (codes "123459BCDFTU "))
    ∷ []

-- the number of the first edit that a message fails
abbrev pub first_failed : ℕ → Content → Option ℕ
first_failed env m = option_map (λ e. e.number) (find (λ e. not (e.holds m)) (edits env))
