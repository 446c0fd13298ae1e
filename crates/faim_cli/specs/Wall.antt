-- The wall clock's time as a moment.
use Rattle.std.specs.Prelude.{ℕ, ◌+◌, ◌-◌, ◌*◌, ◌/◌, nat_lt, Option, Some, None, if◌then◌else◌}
use Rattle.faim_base.specs.Numbers.{is_moment}

-- the minutes from 1970-01-01 to 2000-01-01: thirty years, of which seven are leap years
abbrev pub minutes_before : ℕ
minutes_before = (30 * 365 + 7) * 1440

-- the minutes that have passed in a time of so many nanoseconds
abbrev pub minutes_of : ℕ → ℕ
minutes_of time = time / 1_000_000_000 / 60

-- the moment after so many minutes since 1970-01-01 00:00, where it lies in the years 2000 to 9999
abbrev pub moment_after : ℕ → Option ℕ
moment_after minutes =
    if nat_lt minutes minutes_before then None
    else (if is_moment (minutes - minutes_before) then Some (minutes - minutes_before) else None)

-- the moment in which a time lies that is told in nanoseconds since 1970-01-01 00:00
abbrev pub moment_of : ℕ → Option ℕ
moment_of time = moment_after (minutes_of time)
