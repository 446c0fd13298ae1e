-- Readings of the wall clock, as `date -u +%s` tells them of the dates.
use Rattle.std.specs.Prelude.{◌≡◌, refl, Some, None}
use Rattle.faim_cli.specs.Wall.{moment_of}

-- 2024-01-02 09:30:00, and the last nanosecond of that minute
a_moment : moment_of 1_704_187_800_000_000_000 ≡ Some 12_625_050
a_moment = refl

end_of_a_minute : moment_of 1_704_187_859_999_999_999 ≡ Some 12_625_050
end_of_a_minute = refl

-- 2000-01-01 00:00:00, and the nanosecond before
first_moment : moment_of 946_684_800_000_000_000 ≡ Some 0
first_moment = refl

before_the_first : moment_of 946_684_799_999_999_999 ≡ None
before_the_first = refl

-- 9999-12-31 23:59:59 and the second after it
last_moment : moment_of 253_402_300_799_000_000_000 ≡ Some 4_207_593_599
last_moment = refl

after_the_last : moment_of 253_402_300_800_000_000_000 ≡ None
after_the_last = refl
