-- What acts of the day's worlds are about: a reminder, the operator's request, and restarts, with the ways of these at their limits.
use Rattle.std.specs.Prelude.{◌≡◌, refl, ℕ, Some}
use Rattle.std.proofs.Common.{arith, lit≤}
use Rattle.faim_base.specs.Calendar.{date_from, date_in_year, date_text, days_of_months, days_of_years}
use Rattle.faim_base.specs.Digits.{padded}
use Rattle.faim_message.specs.Forms.{permitted}
use Rattle.faim_tags.specs.Layouts.{row_of}
use Rattle.bank_books.specs.declared.outcomes.BankOutcome.TheVariants as bank
use Rattle.faim_model.specs.declared.decisions.HostOutcome.TheVariants as host
use Rattle.world_events.specs.Allowed.{IsAct}
use Rattle.world_events.specs.declared.acts.Act.TheVariants.{Deliver, Restart, Roll, Tick}
use Rattle.world_events.specs.declared.acts.End.TheVariants.{Host, Bank}
use Rattle.world_events.specs.declared.outcomes.Kept.TheVariants as entry
use Rattle.world_events.specs.declared.outcomes.Outcome.TheVariants as outcome
use Rattle.world_model.specs.Worlds.{opening_at, started}
use Rattle.world_model.specs.Effects.{ResumesBank, ResumesHost, effect}
use Rattle.world_model.specs.Ways.{Stopped, Through}
use Rattle.world_model.specs.WorldSteps.{MayGo, done}
use Rattle.world_model.proofs.DayExamples.{alpha_line, banks, config, drafted, known}

-- the clock reads the first minute of the opening date at first, and a bank of a production line opens on it
first_minute : (started config banks).moment ≡ 12_624_480
first_minute = refl

of_the_line : (opening_at (record config { env = 80 }) alpha_line).env ≡ 80
of_the_line = refl

-- a reminder is the bank's own, and the operator's request the host's
reminds : done drafted (effect drafted (Tick alpha_line)) ≡ outcome.Bank alpha_line (bank.Resent 1)
unfolding date_text padded date_from date_in_year days_of_months days_of_years row_of permitted
reminds = refl

rolls : done known (effect known (Roll 8768)) ≡ outcome.Host (host.Rolled 8768)
unfolding date_text padded date_from date_in_year days_of_months days_of_years row_of permitted
rolls = refl

-- a restart of the host tells the frames of its last record, an acknowledgement and an output; one of a bank sends none
restarts : (done known (effect known (Restart Host)) ≡ outcome.Restarted 2) × (done known (effect known (Restart (Bank alpha_line))) ≡ outcome.Restarted 0)
restarts = (refl, refl)

-- a stop of a resume is reached by the 28th call at most, where the host has one entry and sends two frames again; with a stop at
-- the third call or before it doesn't come through
host_reached : MayGo known (Some 28) ResumesHost (Stopped entry.Plain 2)
host_reached = record { reached = lit≤ tt; nothing = refl; few = lit≤ tt }

host_not_reached : (sent : ℕ) → MayGo known (Some 29) ResumesHost (Stopped entry.Plain sent) → ⊥
host_not_reached sent stop = let there = stop.reached in omega (arith, there)

host_through : MayGo known (Some 4) ResumesHost Through × (MayGo known (Some 3) ResumesHost Through → ⊥)
host_through = (lit≤ tt, λ may. omega (arith, may))

-- and where a bank has one draft, by the 26th
bank_reached : MayGo known (Some 26) (ResumesBank alpha_line) (Stopped entry.Plain 0)
bank_reached = record { reached = lit≤ tt; nothing = refl; few = lit≤ tt }

bank_not_reached : (sent : ℕ) → MayGo known (Some 27) (ResumesBank alpha_line) (Stopped entry.Plain sent) → ⊥
bank_not_reached sent stop = let there = stop.reached in omega (arith, there)

-- no frame has the number 0
from_one : IsAct banks (Deliver Host 0) → ⊥
from_one may = let first = may.1 in omega (arith, first)
