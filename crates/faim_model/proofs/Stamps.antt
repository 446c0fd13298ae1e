-- The stamp of each moment of the calendar is one.
use Rattle.std.proofs.Common.{◌≡◌, refl, sym, ap, ◌∙◌, ℕ, ◌/◌, ◌%◌, ◌≤◌, ◌==◌, ◌||◌, Bool, true, false, cond, arith}
use Rattle.std.proofs.lemmas.Bool.{le-leb}
use Rattle.faim_base.specs.Calendar.{Civil, civil_of, days_in_month, is_leap_year}
use Rattle.faim_base.specs.Ids.{is_stamp, stamp_of}
use Rattle.faim_base.specs.Numbers.{IsDay, IsMoment}
use Rattle.faim_base.proofs.CalendarLemmas.{IsDate, civil_of-day_number}
use Rattle.faim_base.proofs.DateLemmas.{date_of_number}

-- no month has more days than in a leap year
longest_month : (y m : ℕ) → days_in_month y m ≤ days_in_month 2000 m
longest_month y m = by_month (m == 2) (is_leap_year y) (cond ((m == 4) || ((m == 6) || ((m == 9) || (m == 11)))) 30 31)
  where
    by_month : (february leap : Bool) (other : ℕ) → cond february (cond leap 29 28) other ≤ cond february 29 other
    by_month true true other = omega arith
    by_month true false other = omega arith
    by_month false leap other = omega arith

in_range : (y m d moment : ℕ) → IsDate y m d
    → is_stamp (record { month = m; day = d; hour = moment % 1440 / 60; minute = moment % 60 }) ≡ true
in_range y m d moment is =
    let last : d ≤ days_in_month 2000 m = omega (arith, is.to_last, longest_month y m) in
    let hour : moment % 1440 / 60 ≤ 23 = omega arith in
    let minute : moment % 60 ≤ 59 = omega arith in
    rw (
      le-leb 1 m is.from_january,
      le-leb m 12 is.to_december,
      le-leb 1 d is.from_first,
      le-leb d (days_in_month 2000 m) last,
      le-leb (moment % 1440 / 60) 23 hour,
      le-leb (moment % 60) 59 minute,
    ) refl

pub stamp_sound : (moment : ℕ) → IsMoment moment → is_stamp (stamp_of moment) ≡ true
stamp_sound moment in_calendar =
    let day : IsDay (moment / 1440) = omega (arith, in_calendar) in
    let (y, m, d, is, number) = date_of_number (moment / 1440) day in
    let civil : civil_of (moment / 1440) ≡ record { year = y; month = m; day = d } = ap civil_of (sym number) ∙ civil_of-day_number y m d is in
    ap (λ (date : Civil). is_stamp (record { month = date.month; day = date.day; hour = moment % 1440 / 60; minute = moment % 60 })) civil
    ∙ in_range y m d moment is
