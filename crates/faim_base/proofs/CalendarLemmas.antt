-- Day numbers of dates, counted off by years and months, and by the days before each of them.
use Rattle.std.proofs.Common.{◌≡◌, ℕ, zero, suc, ◌+◌, ◌-◌, ◌<◌, ◌≤◌, true, false, nat_lt, nat_le, refl, ◌∙◌, arith}
use Rattle.std.proofs.lemmas.Bool.{lt-ltb, le-ltb, leb-true, le-leb, and_parts, and_from}
use Rattle.faim_base.specs.Calendar.{days_in_year, days_in_month, days_of_years, days_of_months, day_number, is_date, date_in_year, date_from, civil_of}

pub days_of_years-zero : days_of_years 0 ≡ 0
unfolding days_of_years
days_of_years-zero = refl

pub days_of_years_more : (n : ℕ) → days_of_years (n + 1) ≡ days_of_years n + days_in_year (2000 + n)
unfolding days_of_years
days_of_years_more n = let e : n + 1 ≡ suc n = omega arith in rw e refl

pub days_of_months-zero : (y : ℕ) → days_of_months y 0 ≡ 0
unfolding days_of_months
days_of_months-zero y = refl

pub days_of_months_more : (y n : ℕ) → days_of_months y (n + 1) ≡ days_of_months y n + days_in_month y (n + 1)
unfolding days_of_months
days_of_months_more y n = let e : n + 1 ≡ suc n = omega arith in rw e refl

days_of_years_add : (n k : ℕ) → days_of_years n ≤ days_of_years (n + k)
days_of_years_add n zero = let e : n + zero ≡ n = omega arith in rw e (omega arith)
days_of_years_add n (suc k) =
    let e : n + suc k ≡ n + k + 1 = omega arith in
    rw e (omega (arith, days_of_years_add n k, days_of_years_more (n + k)))

pub days_of_years_mono : (n later : ℕ) → n ≤ later → days_of_years n ≤ days_of_years later
days_of_years_mono n later h = let e : n + (later - n) ≡ later = omega arith in rw e at (days_of_years_add n (later - n))

days_of_months_add : (y n k : ℕ) → days_of_months y n ≤ days_of_months y (n + k)
days_of_months_add y n zero = let e : n + zero ≡ n = omega arith in rw e (omega arith)
days_of_months_add y n (suc k) =
    let e : n + suc k ≡ n + k + 1 = omega arith in
    rw e (omega (arith, days_of_months_add y n k, days_of_months_more y (n + k)))

pub days_of_months_mono : (y n later : ℕ) → n ≤ later → days_of_months y n ≤ days_of_months y later
days_of_months_mono y n later h = let e : n + (later - n) ≡ later = omega arith in rw e at (days_of_months_add y n (later - n))

-- the year's months together are the year
pub days_of_months_all : (y : ℕ) → days_of_months y 12 ≡ days_in_year y
unfolding days_of_months
days_of_months_all y = grind arith

-- counting off one month, or none
date_in_year-here : (more y m n : ℕ) → n < days_in_month y m → date_in_year more y m n ≡ record { year = y; month = m; day = n + 1 }
unfolding date_in_year
date_in_year-here zero y m n h = refl
date_in_year-here (suc more) y m n h = let e : nat_lt n (days_in_month y m) ≡ true = lt-ltb _ _ h in rw (e, date_in_year)

date_in_year-next : (more y m n : ℕ) → days_in_month y m ≤ n → date_in_year (suc more) y m n ≡ date_in_year more y (m + 1) (n - days_in_month y m)
unfolding date_in_year
date_in_year-next more y m n h = let e : nat_lt n (days_in_month y m) ≡ false = le-ltb _ _ h in rw (e, date_in_year)

-- the date of a day r of a later month
pub date_in_year_is : (more y j n k r : ℕ) → k ≤ more → n + days_of_months y j ≡ days_of_months y (j + k) + r → r < days_in_month y (j + k + 1) → date_in_year more y (j + 1) n ≡ record { year = y; month = j + k + 1; day = r + 1 }
date_in_year_is more y j n zero r few e within =
    let same : j + zero ≡ j = omega arith in
    let here : n ≡ r = omega (arith, rw same at e) in
    rw (same, here) (date_in_year-here more y (j + 1) r (rw same at within))
date_in_year_is zero y j n (suc k) r few e within = absurd (omega arith)
date_in_year_is (suc more) y j n (suc k) r few e within =
    let later : j + suc k ≡ j + 1 + k = omega arith in
    let count = rw later at e in
    let past : days_in_month y (j + 1) ≤ n = omega (arith, days_of_months_more y j, days_of_months_mono y (j + 1) (j + 1 + k) (omega arith)) in
    rw later (date_in_year-next more y (j + 1) n past ∙ date_in_year_is more y (j + 1) (n - days_in_month y (j + 1)) k r (omega arith) (omega (arith, days_of_months_more y j)) (rw later at within))

-- the same for whole years
date_from-here : (more y n : ℕ) → n < days_in_year y → date_from more y n ≡ date_in_year 11 y 1 n
unfolding date_from
date_from-here zero y n h = refl
date_from-here (suc more) y n h = let e : nat_lt n (days_in_year y) ≡ true = lt-ltb _ _ h in rw (e, date_from)

date_from-next : (more y n : ℕ) → days_in_year y ≤ n → date_from (suc more) y n ≡ date_from more (y + 1) (n - days_in_year y)
unfolding date_from
date_from-next more y n h = let e : nat_lt n (days_in_year y) ≡ false = le-ltb _ _ h in rw (e, date_from)

-- the date of a day r of a later year
date_from_is : (more j n k r : ℕ) → k ≤ more → n + days_of_years j ≡ days_of_years (j + k) + r → r < days_in_year (2000 + (j + k)) → date_from more (2000 + j) n ≡ date_in_year 11 (2000 + (j + k)) 1 r
date_from_is more j n zero r few e within =
    let same : j + zero ≡ j = omega arith in
    let here : n ≡ r = omega (arith, rw same at e) in
    rw (same, here) (date_from-here more (2000 + j) r (rw same at within))
date_from_is zero j n (suc k) r few e within = absurd (omega arith)
date_from_is (suc more) j n (suc k) r few e within =
    let later : j + suc k ≡ j + 1 + k = omega arith in
    let next : 2000 + j + 1 ≡ 2000 + (j + 1) = omega arith in
    let count = rw later at e in
    let past : days_in_year (2000 + j) ≤ n = omega (arith, days_of_years_more j, days_of_years_mono (j + 1) (j + 1 + k) (omega arith)) in
    let rest = date_from_is more (j + 1) (n - days_in_year (2000 + j)) k r (omega arith) (omega (arith, days_of_years_more j)) (rw later at within) in
    rw later (date_from-next more (2000 + j) n past ∙ rw next rest)

-- what a date of the calendar is
pub record IsDate (y m d : ℕ) : Type 0 where
  pub from_2000 : 2000 ≤ y
  pub to_9999 : y ≤ 9999
  pub from_january : 1 ≤ m
  pub to_december : m ≤ 12
  pub from_first : 1 ≤ d
  pub to_last : d ≤ days_in_month y m

pub IsDate-from_test : (y m d : ℕ) → is_date y m d ≡ true → IsDate y m d
IsDate-from_test y m d h =
    let a = and_parts (nat_le 2000 y) _ h in
    let b = and_parts (nat_le y 9999) _ a.1 in
    let c = and_parts (nat_le 1 m) _ b.1 in
    let e = and_parts (nat_le m 12) _ c.1 in
    let f = and_parts (nat_le 1 d) _ e.1 in
    record {
      from_2000 = leb-true 2000 y a.0;
      to_9999 = leb-true y 9999 b.0;
      from_january = leb-true 1 m c.0;
      to_december = leb-true m 12 e.0;
      from_first = leb-true 1 d f.0;
      to_last = leb-true d (days_in_month y m) f.1;
    }

pub test-from_IsDate : (y m d : ℕ) → IsDate y m d → is_date y m d ≡ true
test-from_IsDate y m d h =
    and_from (nat_le 2000 y) _ (le-leb 2000 y h.from_2000)
    (and_from (nat_le y 9999) _ (le-leb y 9999 h.to_9999)
    (and_from (nat_le 1 m) _ (le-leb 1 m h.from_january)
    (and_from (nat_le m 12) _ (le-leb m 12 h.to_december)
    (and_from (nat_le 1 d) _ (le-leb 1 d h.from_first) (le-leb d (days_in_month y m) h.to_last)))))

-- a day of a year is one of its days
day_of_year_lt : (y m d : ℕ) → IsDate y m d → days_of_months y (m - 1) + (d - 1) < days_in_year y
day_of_year_lt y m d h =
    let e : m - 1 + 1 ≡ m = omega arith in
    omega (arith, rw e at (days_of_months_more y (m - 1)), days_of_months_mono y m 12 h.to_december, days_of_months_all y)

-- a date has its own day number
pub civil_of-day_number : (y m d : ℕ) → IsDate y m d → civil_of (day_number y m d) ≡ record { year = y; month = m; day = d }
civil_of-day_number y m d h =
    let year : 2000 + (0 + (y - 2000)) ≡ y = omega arith in
    let month : 0 + (m - 1) + 1 ≡ m = omega arith in
    let day : d - 1 + 1 ≡ d = omega arith in
    let within = day_of_year_lt y m d h in
    let start : 2000 + 0 ≡ 2000 = omega arith in
    let first : 0 + 1 ≡ 1 = omega arith in
    let before : 0 + (y - 2000) ≡ y - 2000 = omega arith in
    let past : 0 + (m - 1) ≡ m - 1 = omega arith in
    let by_years = date_from_is 7999 0 (day_number y m d) (y - 2000) (days_of_months y (m - 1) + (d - 1)) (omega arith) (rw before (omega (arith, days_of_years-zero))) (rw year within) in
    let by_months = date_in_year_is 11 y 0 (days_of_months y (m - 1) + (d - 1)) (m - 1) (d - 1) (omega arith) (rw past (omega (arith, days_of_months-zero y))) (rw month (omega arith)) in
    rw (start, year) at by_years ∙ rw (first, month, day) at by_months
