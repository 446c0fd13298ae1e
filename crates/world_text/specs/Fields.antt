-- The values of words (docs/FORMATS.md, "Scripts").
use Rattle.std.specs.Prelude.{ℕ, ◌+◌, ◌*◌, ◌/◌, ◌%◌, ◌==◌, ◌&&◌, not, nat_le, Bool, false, List, [], ◌∷◌, length, codes, bytes_eq, Option, Some, None, option_map, option_and_then, if◌then◌else◌, ℤ, pos, neg_ℤ}
use Rattle.std.specs.List.{list_all}
use Rattle.faim_base.specs.Text.{is_digit, read_endpoint, read_aba, aba_holds}
use Rattle.faim_base.specs.Digits.{number_of, read_number, read_seq}
use Rattle.faim_base.specs.Calendar.{read_date}

-- T for test, P for production
abbrev pub env_word : List ℕ → Option ℕ
env_word w = if bytes_eq w (codes "T") then Some 84 else (if bytes_eq w (codes "P") then Some 80 else None)

abbrev pub date_word : List ℕ → Option ℕ
date_word w = if length w == 8 then read_date w else None

-- hours and minutes, read as one number HHMM up to 2359, as minutes of the day
abbrev pub time_of : ℕ → Option ℕ
time_of n = if nat_le n 2_359 && nat_le (n % 100) 59 then Some (60 * (n / 100) + n % 100) else None

abbrev pub time_word : List ℕ → Option ℕ
time_word w = if length w == 4 then option_and_then time_of (read_number w) else None

-- a cutoff in minutes of the day, of which 2400 is the end
abbrev pub cutoff_word : List ℕ → Option ℕ
cutoff_word w = if bytes_eq w (codes "2400") then Some 1440 else time_word w

abbrev pub endpoint_word : List ℕ → Option (List ℕ)
endpoint_word w = if length w == 8 then read_endpoint w else None

-- a bank's number whose check digit holds
abbrev pub aba_word : List ℕ → Option (List ℕ)
aba_word w = if (length w == 9) && aba_holds w then read_aba w else None

-- at most twelve digits, without a zero before others
abbrev pub is_plain_number : List ℕ → Bool
is_plain_number [] = false
is_plain_number (d ∷ []) = is_digit d
is_plain_number (d ∷ e ∷ rest) = not (d == 48) && (list_all is_digit (d ∷ e ∷ rest) && nat_le (length rest) 10)

abbrev pub magnitude_word : List ℕ → Option ℕ
magnitude_word w = if is_plain_number w then Some (number_of w) else None

-- a magnitude that isn't 0 after a minus
abbrev pub below_zero : Option ℕ → Option ℤ
below_zero None = None
below_zero (Some n) = if n == 0 then None else Some (neg_ℤ (pos n))

-- an amount in cents, -999,999,999,999 to 999,999,999,999
abbrev pub cents_word : List ℕ → Option ℤ
cents_word [] = None
cents_word (b ∷ rest) = if b == 45 then below_zero (magnitude_word rest) else option_map (λ n. pos n) (magnitude_word (b ∷ rest))

abbrev pub seq_word : List ℕ → Option ℕ
seq_word w = if length w == 6 then read_seq w else None
