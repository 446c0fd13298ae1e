-- Numbers as digits (docs/FORMATS.md, "Numbers in texts").
use Rattle.std.specs.Prelude.{ℕ, zero, suc, ◌+◌, ◌-◌, ◌*◌, ◌/◌, ◌%◌, ◌==◌, ◌&&◌, not, nat_le, Bool, List, [], ◌∷◌, ◌++◌, length, fold, Option, Some, None, if◌then◌else◌}
use Rattle.std.specs.List.{list_all}
use Rattle.faim_base.specs.Text.{is_digit}

-- the number that digits spell, the highest first
abbrev pub number_of : List ℕ → ℕ
number_of digits = fold (λ n d. 10 * n + (d - 48)) 0 digits

-- at least one digit, and nothing else
abbrev pub is_number : List ℕ → Bool
is_number text = not (length text == 0) && list_all is_digit text

abbrev pub read_number : List ℕ → Option ℕ
read_number text = if is_number text then Some (number_of text) else None

-- the last digits of a number, as many as are asked for
unfoldable pub padded : ℕ → ℕ → List ℕ
padded zero n = []
padded (suc width) n = padded width (n / 10) ++ (48 + n % 10) ∷ []

-- the message number that six digits spell
abbrev pub read_seq : List ℕ → Option ℕ
read_seq text = if list_all is_digit text && nat_le 1 (number_of text) then Some (number_of text) else None
