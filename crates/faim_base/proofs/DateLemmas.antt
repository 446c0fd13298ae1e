-- A day and its text determine each other.
use Rattle.std.proofs.Common.{◌≡◌, inl, inr, ℕ, zero, suc, ◌+◌, ◌-◌, ◌<◌, ◌≤◌, Some, List, ◌++◌, length, length-append, take, drop, refl, sym, ap, ◌∙◌, arith}
use Rattle.std.specs.List.{list_all}
use Rattle.std.proofs.lemmas.Bool.{cases_lt}
use Rattle.std.proofs.lemmas.List.{length-take-le, length-drop}
use Rattle.std.proofs.lemmas.Option.{cond_some}
use Rattle.faim_base.specs.Text.{is_digit}
use Rattle.faim_base.specs.Digits.{number_of, padded}
use Rattle.faim_base.specs.Calendar.{days_in_year, days_in_month, days_of_years, days_of_months, day_number, is_date, read_date, civil_of, date_text}
use Rattle.faim_base.specs.Numbers.{IsDay}
use Rattle.faim_base.proofs.CalendarLemmas.{IsDate, IsDate-from_test, civil_of-day_number, days_of_years-zero, days_of_years_more, days_of_months-zero, days_of_months_more, days_of_months_all}
use Rattle.faim_base.proofs.DigitLemmas.{length-padded, list_all-padded, number_of-padded, padded-number_of}
use Rattle.faim_base.proofs.EpochLemmas.{days_of_all_years, day_number_bound, date_of_is}
use Rattle.faim_base.proofs.ReadLemmas.{all_of_date, chosen_some, all_of_parts}
use Rattle.faim_base.proofs.CutLemmas.{parts_of_three, join_three}

-- the step of f that n lies in
pub record Lies (f : ℕ → ℕ) (steps n : ℕ) : Type 0 where
  pub step : ℕ
  pub within : step < steps
  pub low : f step ≤ n
  pub high : n < f (step + 1)

pub lies : (f : ℕ → ℕ) (steps n : ℕ) → f 0 ≤ n → n < f steps → Lies f steps n
lies f zero n low high = absurd (omega arith)
lies f (suc steps) n low high = elim (cases_lt n (f steps)) [
  | inl before ↦ let found = lies f steps n low before in record { step = found.step; within = omega (arith, found.within); low = found.low; high = found.high }
  | inr after ↦ let e : suc steps ≡ steps + 1 = omega arith in record { step = steps; within = omega arith; low = after; high = rw e at high }
]

-- each day is a date of the calendar
pub date_of_number : (n : ℕ) → IsDay n → (y m d : ℕ) × IsDate y m d × (day_number y m d ≡ n)
date_of_number n h =
    let years = lies days_of_years 8000 n (omega (arith, days_of_years-zero)) (omega (arith, days_of_all_years)) in
    let y = 2000 + years.step in
    let rest = n - days_of_years years.step in
    let in_year : rest < days_in_year y = omega (arith, years.low, years.high, days_of_years_more years.step) in
    let months = lies (days_of_months y) 12 rest (omega (arith, days_of_months-zero y)) (omega (arith, days_of_months_all y)) in
    let m = months.step + 1 in
    let d = rest - days_of_months y months.step + 1 in
    let year : y - 2000 ≡ years.step = omega arith in
    let month : m - 1 ≡ months.step = omega arith in
    let is : IsDate y m d = record {
      from_2000 = omega arith;
      to_9999 = omega (arith, years.within);
      from_january = omega arith;
      to_december = omega (arith, months.within);
      from_first = omega arith;
      to_last = omega (arith, months.low, months.high, days_of_months_more y months.step);
    } in
    (y, m, d, is, rw (year, month) (omega (arith, years.low, months.low)))

-- eight bytes of a date
pub length-date_text : (n : ℕ) → length (date_text n) ≡ 8
unfolding date_text
length-date_text n =
    let c = civil_of n in
    omega (arith, length-append (padded 4 c.year ++ padded 2 c.month) (padded 2 c.day), length-append (padded 4 c.year) (padded 2 c.month), length-padded 4 c.year, length-padded 2 c.month, length-padded 2 c.day)

pub days_in_month_le : (y m : ℕ) → days_in_month y m ≤ 31
days_in_month_le y m = grind arith

read_civil : (y m d : ℕ) → IsDate y m d → read_date (padded 4 y ++ padded 2 m ++ padded 2 d) ≡ Some (day_number y m d)
read_civil y m d h =
    let cut = parts_of_three (padded 4 y) (padded 2 m) (padded 2 d) 4 2 6 (length-padded 4 y) (length-padded 2 m) refl in
    let text = padded 4 y ++ padded 2 m ++ padded 2 d in
    let size : length text ≡ 8 = omega (arith, length-append (padded 4 y ++ padded 2 m) (padded 2 d), length-append (padded 4 y) (padded 2 m), length-padded 4 y, length-padded 2 m, length-padded 2 d) in
    let all = all_of_date text size (rw cut.0 (list_all-padded 4 y)) (rw cut.1 (list_all-padded 2 m)) (rw cut.2 (list_all-padded 2 d)) in
    let year = number_of-padded 4 y (omega (arith, h.to_9999)) in
    let month = number_of-padded 2 m (omega (arith, h.to_december)) in
    let day = number_of-padded 2 d (omega (arith, h.to_last, days_in_month_le y m)) in
    rw (all, cut.0, cut.1, cut.2, year, month, day) (date_of_is y m d h)

pub read_date-date_text : (n : ℕ) → IsDay n → read_date (date_text n) ≡ Some n
unfolding date_text
read_date-date_text n h =
    let (y, m, d, is, number) = date_of_number n h in
    let civil : civil_of n ≡ record { year = y; month = m; day = d } = ap civil_of (sym number) ∙ civil_of-day_number y m d is in
    rw civil (read_civil y m d is ∙ ap (λ (k : ℕ). Some k) number)

-- digits that name a day
pub date_text-read_date : (text : List ℕ) (n : ℕ) → length text ≡ 8 → read_date text ≡ Some n → (date_text n ≡ text) × IsDay n
unfolding date_text
date_text-read_date text n size e =
    let read = chosen_some (list_all is_digit text) _ n e in
    let first = all_of_parts is_digit text 0 4 4 refl read.0 in
    let second = all_of_parts is_digit text 4 2 6 refl first.1 in
    let y = number_of (take 4 text) in
    let m = number_of (take 2 (drop 4 text)) in
    let d = number_of (drop 6 text) in
    let found = cond_some (is_date y m d) (day_number y m d) n read.1 in
    let is = IsDate-from_test y m d found.0 in
    let civil : civil_of n ≡ record { year = y; month = m; day = d } = ap civil_of (sym found.1) ∙ civil_of-day_number y m d is in
    let year = padded-number_of (take 4 text) 4 (length-take-le 4 text (omega arith)) first.0 in
    let month = padded-number_of (take 2 (drop 4 text)) 2 (length-take-le 2 (drop 4 text) (omega (arith, length-drop 4 text))) second.0 in
    let day = padded-number_of (drop 6 text) 2 (omega (arith, length-drop 6 text)) second.1 in
    (rw (civil, year, month, day) (join_three text 4 2 6 refl), omega (arith, day_number_bound y m d is, found.1))
