-- Day numbers from 2000-01-01 and from 1970-01-01.
use Rattle.std.proofs.Common.{◌≡◌, nat_le, Some, None, if◌then◌else◌, to_z, of_z, w32, w16, w64, true, unsigned_abs, ℕ, zero, suc, ◌+◌, ◌-◌, ◌≤◌, refl, sym, ap, ◌∙◌, arith, inl, inr, ℤ, pos, negsuc, ◌+ℤ◌, ◌-ℤ◌, ◌<ℤ◌}
use Rattle.std.proofs.lemmas.Bool.{cases_lt, le-leb}
use Rattle.std.proofs.lemmas.Bool.Decides.{nat_tests}
use Rattle.std.proofs.lemmas.Int.{to_z-of_z}
use Rattle.jiff_core.specs.Calendar as jiff
use Rattle.jiff_core.proofs.CalendarLemmas as counts
use Rattle.jiff_core.proofs.MarchLemmas as march
use Rattle.jiff_core.proofs.SignedLemmas.{signed_arith}
use Rattle.faim_base.specs.Calendar.{days_in_year, days_in_month, days_of_years, days_of_months, is_leap_year, day_number, is_date, date_of, civil_of}
use Rattle.faim_base.proofs.CalendarLemmas.{IsDate, IsDate-from_test, civil_of-day_number, test-from_IsDate, days_of_years_more, days_of_years-zero, days_of_months-zero}

leap_years_agree : (y : ℕ) → jiff.is_leap_year (pos y) ≡ is_leap_year y
leap_years_agree y = refl

month_lengths_agree : (y m : ℕ) → jiff.days_in_month (pos y) m ≡ days_in_month y m
month_lengths_agree y m = grind (arith, nat_tests)

year_lengths_agree : (y : ℕ) → jiff.days_in_year (pos y) ≡ days_in_year y
year_lengths_agree y = refl

months_agree : (y n : ℕ) → jiff.days_of_months (pos y) n ≡ days_of_months y n
unfolding days_of_months jiff.days_of_months
months_agree y zero = refl
months_agree y (suc n) = omega (arith, months_agree y n, month_lengths_agree y (suc n))

-- the years of the other count, which begins 12,000 years before ours
years_agree : (k : ℕ) → jiff.days_of_years (k + 12000) ≡ jiff.days_of_years 12000 + days_of_years k
years_agree zero = let e : zero + 12000 ≡ 12000 = omega arith in rw e (omega (arith, days_of_years-zero))
years_agree (suc k) =
    let there : suc k + 12000 ≡ suc (k + 12000) = omega arith in
    let here : suc k ≡ k + 1 = omega arith in
    let shift = march.leap_day-shift (pos (2000 + k)) (k + 12000) (omega (arith, signed_arith)) in
    rw (there, here) (omega (arith, years_agree k, march.days_of_years-suc (k + 12000), days_of_years_more k, shift, march.days_in_year-leap_day (pos (2000 + k)), year_lengths_agree (2000 + k)))

days_before_2000 : jiff.days_of_years 12000 ≡ 4_382_910
days_before_2000 = omega (arith, march.days_of_years-march_days 12000)

-- the days of the 8,000 years that have dates
pub days_of_all_years : days_of_years 8000 ≡ 2_921_940
days_of_all_years = omega (arith, years_agree 8000, days_before_2000, march.days_of_years-march_days 20000)

pub day_count_is : (y m d : ℕ) → 2000 ≤ y → 1 ≤ d → jiff.day_count (pos y) m d ≡ 4_382_910 + day_number y m d
unfolding jiff.day_count
day_count_is y m d low first =
    let e : y + 10000 ≡ (y - 2000) + 12000 = omega arith in
    rw e (omega (arith, years_agree (y - 2000), months_agree y (m - 1), days_before_2000))

IsCivilDate-from_IsDate : (y m d : ℕ) → IsDate y m d → jiff.IsCivilDate (pos y) m d
IsCivilDate-from_IsDate y m d h =
    let last : d ≤ jiff.days_in_month (pos y) m = rw (month_lengths_agree y m) h.to_last in
    ((omega (arith, signed_arith), omega (arith, signed_arith)), (h.from_january, h.to_december), (h.from_first, last))

-- 9999-12-31 is the last date
pub day_number_bound : (y m d : ℕ) → IsDate y m d → day_number y m d ≤ 2_921_939
day_number_bound y m d h =
    omega (arith, day_count_is y m d h.from_2000 h.from_first, counts.day_count_bounds (pos y) m d (IsCivilDate-from_IsDate y m d h))

-- the day number that counts from 1970 is ours and that of 2000-01-01
pub epoch_day_is : (y m d : ℕ) → IsDate y m d → jiff.days_from_civil (pos y) m d ≡ pos (day_number y m d + 10957)
epoch_day_is y m d h =
    let count = day_count_is y m d h.from_2000 h.from_first in
    let epoch = counts.days_from_civil-day_count (pos y) m d in
    omega (arith, signed_arith)

count_of_day : (y : ℤ) (m d n : ℕ) → jiff.days_from_civil y m d ≡ pos n +ℤ pos 10957 → jiff.day_count y m d ≡ 4_382_910 + n
count_of_day y m d n e =
    let epoch = counts.days_from_civil-day_count y m d in
    omega (arith, signed_arith)

count_of_2000 : jiff.day_count (pos 2000) 1 1 ≡ 4_382_910
count_of_2000 = omega (arith, day_count_is 2000 1 1 (omega arith) (omega arith), days_of_years-zero, days_of_months-zero 2000)

from_2000 : (y : ℤ) (m d n : ℕ) → jiff.IsCivilDate y m d → jiff.day_count y m d ≡ 4_382_910 + n → y <ℤ pos 2000 → ⊥
from_2000 y m d n h e before =
    omega (arith, counts.day_count-lt_year y m d (pos 2000) 1 1 h (omega arith) before, count_of_2000)

-- a date of which the day number is not before 2000-01-01 lies in the years from 2000 on
pub date_of_day : (y : ℤ) (m d n : ℕ) → jiff.IsCivilDate y m d → jiff.days_from_civil y m d ≡ pos n +ℤ pos 10957 → (year : ℕ) × (y ≡ pos year) × IsDate year m d × (day_number year m d ≡ n)
date_of_day (negsuc y) m d n h e = absurd (from_2000 (negsuc y) m d n h (count_of_day (negsuc y) m d n e) (omega (arith, signed_arith)))
date_of_day (pos y) m d n h e =
    let count = count_of_day (pos y) m d n e in
    let low : 2000 ≤ y = elim (cases_lt y 2000) [ inl lt ↦ absurd (from_2000 (pos y) m d n h count (omega (arith, signed_arith))) | inr le ↦ le ] in
    let is : IsDate y m d = record {
      from_2000 = low;
      to_9999 = omega (arith, signed_arith);
      from_january = h.1.0;
      to_december = h.1.1;
      from_first = h.2.0;
      to_last = rw (month_lengths_agree y m) at h.2.1;
    } in
    (y, refl, is, omega (arith, day_count_is y m d low h.2.0))

-- a date of the year y, which is past 2000
pub date_made : (year : ℤ) (month day y m d : ℕ) → jiff.IsCivilDate year month day → year ≡ pos y → pos month ≡ pos m → pos day ≡ pos d → 2000 ≤ y → IsDate y m d × (jiff.days_from_civil year month day ≡ pos (day_number y m d + 10957))
date_made year month day y m d h e f g low =
    let same_month : month ≡ m = omega (arith, signed_arith) in
    let same_day : day ≡ d = omega (arith, signed_arith) in
    let valid : jiff.IsCivilDate (pos y) m d = rw (e, same_month, same_day) at h in
    let is : IsDate y m d = record {
      from_2000 = low;
      to_9999 = omega (arith, signed_arith, valid.0);
      from_january = valid.1.0;
      to_december = valid.1.1;
      from_first = valid.2.0;
      to_last = rw (month_lengths_agree y m) at valid.2.1;
    } in
    (is, rw (e, same_month, same_day) (epoch_day_is y m d is))

-- a day number that counts from 1970, cast and counted from 2000
pub counted_from_2000 : (z : ℤ) (k : ℕ) → z ≡ pos (k + 10957) → k ≤ 2_921_939 → to_z w32 (of_z w32 (to_z w32 (of_z w32 z) -ℤ pos 10957)) ≡ pos k
counted_from_2000 z k e h =
    let whole : to_z w32 (of_z w32 z) ≡ pos (k + 10957) = to_z-of_z w32 z (rw e (omega arith)) ∙ e in
    let less : pos (k + 10957) -ℤ pos 10957 ≡ pos k = omega (arith, signed_arith) in
    rw (whole, less) (to_z-of_z w32 (pos k) (omega arith))

pub date_of_is : (y m d : ℕ) → IsDate y m d → date_of y m d ≡ Some (day_number y m d)
date_of_is y m d h = rw (test-from_IsDate y m d h) refl

pub date_of_kept : (y m d : ℕ) → IsDate y m d → (if nat_le (day_number y m d) 2_921_939 then Some (day_number y m d) else None) ≡ date_of y m d
date_of_kept y m d h = rw (date_of_is y m d h, le-leb (day_number y m d) 2_921_939 (day_number_bound y m d h)) refl

-- our day number, counted from 1970
pub counted_from_1970 : (a b : ℤ) (n : ℕ) → a ≡ pos n → b ≡ pos 10957 → n ≤ 2_921_939 → to_z w64 (of_z w64 (to_z w64 (of_z w64 a) +ℤ to_z w64 (of_z w64 b))) ≡ pos n +ℤ pos 10957
counted_from_1970 a b n e f h =
    let first : to_z w64 (of_z w64 (pos n)) ≡ pos n = to_z-of_z w64 (pos n) (omega arith) in
    rw (e, f, first) (to_z-of_z w64 (pos (n + 10957)) (omega arith))

-- the date with that day number is the one that counting off gives
pub civil_of_is : (y : ℤ) (m d n : ℕ) → jiff.IsCivilDate y m d → jiff.days_from_civil y m d ≡ pos n +ℤ pos 10957 → (y ≡ pos (civil_of n).year) × (m ≡ (civil_of n).month) × (d ≡ (civil_of n).day) × (is_date (civil_of n).year (civil_of n).month (civil_of n).day ≡ true)
civil_of_is y m d n h e =
    let (year, same, is, number) = date_of_day y m d n h e in
    let found : civil_of n ≡ record { year = year; month = m; day = d } = ap civil_of (sym number) ∙ civil_of-day_number year m d is in
    rw found (same, refl, refl, test-from_IsDate year m d is)

-- a year as the sixteen bits that it is read from
pub year_number : (z : ℤ) (y : ℕ) (m d : ℕ) → z ≡ pos y → is_date y m d ≡ true → unsigned_abs (to_z w16 (of_z w16 z)) ≡ y
year_number z y m d e h =
    let is = IsDate-from_test y m d h in
    let small = is.to_9999 in
    let same : to_z w16 (of_z w16 (pos y)) ≡ pos y = to_z-of_z w16 (pos y) (omega arith) in
    rw (e, same) refl
