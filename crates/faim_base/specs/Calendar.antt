-- Days, months and years from 2000-01-01 on, and their texts (docs/FORMATS.md, "Dates and moments").
use Rattle.std.specs.Prelude.{ℕ, zero, suc, ◌+◌, ◌-◌, ◌%◌, ◌==◌, ◌&&◌, ◌||◌, not, nat_le, nat_lt, Bool, true, false, List, ◌++◌, take, drop, Option, Some, None, if◌then◌else◌}
use Rattle.std.specs.List.{list_all}
use Rattle.faim_base.specs.Text.{is_digit}
use Rattle.faim_base.specs.Digits.{number_of, padded}

-- every fourth year, but of the centuries only every fourth
abbrev pub is_leap_year : ℕ → Bool
is_leap_year y = (y % 4 == 0) && (not (y % 100 == 0) || (y % 400 == 0))

abbrev pub days_in_year : ℕ → ℕ
days_in_year y = if is_leap_year y then 366 else 365

-- thirty days have September, April, June and November
abbrev pub days_in_month : ℕ → ℕ → ℕ
days_in_month y m =
    if m == 2 then (if is_leap_year y then 29 else 28)
    else (if (m == 4) || ((m == 6) || ((m == 9) || (m == 11))) then 30 else 31)

-- the days of the first n years from 2000 on
unfoldable pub days_of_years : ℕ → ℕ
days_of_years zero = 0
days_of_years (suc n) = days_of_years n + days_in_year (2000 + n)

-- the days of the first n months of a year
unfoldable pub days_of_months : ℕ → ℕ → ℕ
days_of_months y zero = 0
days_of_months y (suc n) = days_of_months y n + days_in_month y (suc n)

-- the days from 2000-01-01 to a date
abbrev pub day_number : ℕ → ℕ → ℕ → ℕ
day_number y m d = days_of_years (y - 2000) + days_of_months y (m - 1) + (d - 1)

-- the calendar has this date, and it lies in the years 2000 to 9999
abbrev pub is_date : ℕ → ℕ → ℕ → Bool
is_date y m d = nat_le 2000 y && (nat_le y 9999 && (nat_le 1 m && (nat_le m 12 && (nat_le 1 d && nat_le d (days_in_month y m)))))

abbrev pub date_of : ℕ → ℕ → ℕ → Option ℕ
date_of y m d = if is_date y m d then Some (day_number y m d) else None

-- the day that eight digits CCYYMMDD name
abbrev pub read_date : List ℕ → Option ℕ
read_date text = if list_all is_digit text then date_of (number_of (take 4 text)) (number_of (take 2 (drop 4 text))) (number_of (drop 6 text)) else None

pub record Civil : Type 0 where
  pub year : ℕ
  pub month : ℕ
  pub day : ℕ

-- the date that many days after the first of a month, where at most so many months are gone through
unfoldable pub date_in_year : ℕ → ℕ → ℕ → ℕ → Civil
date_in_year zero y m n = record { year = y; month = m; day = n + 1 }
date_in_year (suc more) y m n = elim (nat_lt n (days_in_month y m)) [
  | true ↦ record { year = y; month = m; day = n + 1 }
  | false ↦ date_in_year more y (m + 1) (n - days_in_month y m)
]

-- the date that many days after 1 January of a year, where at most so many years are gone through
unfoldable pub date_from : ℕ → ℕ → ℕ → Civil
date_from zero y n = date_in_year 11 y 1 n
date_from (suc more) y n = elim (nat_lt n (days_in_year y)) [
  | true ↦ date_in_year 11 y 1 n
  | false ↦ date_from more (y + 1) (n - days_in_year y)
]

-- the date of a day number: whole years are counted off from 2000 on, then whole months
abbrev pub civil_of : ℕ → Civil
civil_of n = date_from 7999 2000 n

abbrev pub civil_text : Civil → List ℕ
civil_text c = padded 4 c.year ++ padded 2 c.month ++ padded 2 c.day

-- the text CCYYMMDD of a day number
unfoldable pub date_text : ℕ → List ℕ
date_text n = civil_text (civil_of n)
