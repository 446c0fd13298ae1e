-- Which bytes a text may hold, and which texts name an endpoint or a bank (docs/FORMATS.md, "Bytes").
use Rattle.std.specs.Prelude.{ℕ, ◌==◌, ◌+◌, ◌-◌, ◌*◌, ◌%◌, ◌&&◌, ◌||◌, not, nat_le, Bool, List, ◌∷◌, Option, Some, None, if◌then◌else◌}
use Rattle.std.specs.List.{list_all}

-- a printable byte that doesn't begin or end a tag or an element
abbrev pub is_text_byte : ℕ → Bool
is_text_byte b = nat_le 32 b && (nat_le b 126 && not ((b == 42) || ((b == 123) || (b == 125))))

-- a text byte that isn't a blank
abbrev pub is_name_byte : ℕ → Bool
is_name_byte b = is_text_byte b && not (b == 32)

abbrev pub is_digit : ℕ → Bool
is_digit b = nat_le 48 b && nat_le b 57

-- bytes that may stand in a name, of which an endpoint has eight
abbrev pub is_endpoint : List ℕ → Bool
is_endpoint bytes = list_all is_name_byte bytes

abbrev pub read_endpoint : List ℕ → Option (List ℕ)
read_endpoint bytes = if is_endpoint bytes then Some bytes else None

-- digits, of which a bank's number has nine
abbrev pub is_aba : List ℕ → Bool
is_aba bytes = list_all is_digit bytes

abbrev pub read_aba : List ℕ → Option (List ℕ)
read_aba bytes = if is_aba bytes then Some bytes else None

-- the digits three by three, weighed 3, 7 and 1
abbrev pub weighed : List ℕ → ℕ
weighed (a ∷ b ∷ c ∷ rest) = 3 * (a - 48) + 7 * (b - 48) + (c - 48) + weighed rest
weighed rest = 0

-- the check digit of a bank's number holds
abbrev pub aba_holds : List ℕ → Bool
aba_holds digits = weighed digits % 10 == 0
