-- The ranges of numbers (docs/FORMATS.md, "Identifiers" and "Numbers in texts").
use Rattle.std.specs.Prelude.{ℕ, ◌≤◌, ◌&&◌, nat_le, Bool}

-- a message number
abbrev pub greatest_seq : ℕ
greatest_seq = 999_999

abbrev pub is_seq : ℕ → Bool
is_seq n = nat_le 1 n && nat_le n greatest_seq

abbrev pub IsSeq : ℕ → Type 0
IsSeq n = (1 ≤ n) × (n ≤ greatest_seq)

-- an amount in cents
abbrev pub greatest_amount : ℕ
greatest_amount = 999_999_999_999

abbrev pub is_amount : ℕ → Bool
is_amount n = nat_le n greatest_amount

abbrev pub IsAmount : ℕ → Type 0
IsAmount n = n ≤ greatest_amount

-- a day, counted from 2000-01-01; the last is 9999-12-31
abbrev pub last_day : ℕ
last_day = 2_921_939

abbrev pub is_day : ℕ → Bool
is_day n = nat_le n last_day

abbrev pub IsDay : ℕ → Type 0
IsDay n = n ≤ last_day

-- a minute, counted from 2000-01-01 00:00; the last one ends 9999-12-31
abbrev pub last_minute : ℕ
last_minute = 4_207_593_599

abbrev pub is_moment : ℕ → Bool
is_moment n = nat_le n last_minute

abbrev pub IsMoment : ℕ → Type 0
IsMoment n = n ≤ last_minute

-- a type or a subtype of a message, two digits
abbrev pub is_type : ℕ → Bool
is_type n = nat_le n 99

abbrev pub IsType : ℕ → Type 0
IsType n = n ≤ 99
