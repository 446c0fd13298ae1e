-- The ways that a stop leaves, at the limits; which events may happen; and a day that is safe from its start on.
use Rattle.std.specs.Prelude.{◌≡◌, ◌<◌, refl, ℕ, true, false, List, codes, bytes_eq, Some, None}
use Rattle.std.specs.List.{AllByRecursion, IsDistinct}
use Rattle.std.proofs.Common.{⊎_elim, inl, inr, arith, lit≤}
use Rattle.faim_base.specs.Calendar.{days_of_months, days_of_years}
use Rattle.faim_message.specs.Forms.{permitted}
use Rattle.faim_tags.specs.Layouts.{row_of}
use Rattle.host_ledger.specs.Soundness.{IsConfig, operator}
use Rattle.faim_model.proofs.Imads.{bytes_differ}
use Rattle.world_events.specs.declared.acts.Act.TheVariants.{Clock, Submit, Draft, Tick, Deliver}
use Rattle.world_events.specs.declared.acts.End.TheVariants.{Host, Bank}
use Rattle.world_events.specs.declared.outcomes.Kept.TheVariants as entry
use Rattle.world_model.specs.Worlds.{started}
use Rattle.world_model.specs.Effects.{Missing, effect, numbered, sent_to}
use Rattle.world_model.specs.Ways.{Stopped, Through}
use Rattle.world_model.specs.WorldSteps.{ResumeMayGo, StepMayGo, StopsAt}
use Rattle.world_events.specs.Allowed.{AreBanks, IsAct, IsEvent, IsStop}
use Rattle.world_model.specs.Safety.{Safe}
use Rattle.world_model.proofs.DayExamples.{acked, alpha_line, banks, beta_line, config, events, given, known, outcomes, received, run}
use Rattle.world_model.proofs.Keeping.{started_safe}
use Rattle.world_model.proofs.WholeRuns.{run_safe}

-- an entry and two frames: the calls are 1 to 6. Up to the second call the entry is lost
lost_at_two : StopsAt 2 true 2 entry.Lost 0
lost_at_two = record { reached = lit≤ tt; may_keep = lit≤ tt; unsent = λ early. refl; in_turn = λ late. absurd (omega (arith, late)) }

not_kept_at_two : (sent : ℕ) → StopsAt 2 true 2 entry.Kept sent → ⊥
not_kept_at_two sent stop = let may = stop.may_keep in omega (arith, may)

-- at the third and the fourth it is lost or kept, and no frame is out
either_at_three : StopsAt 3 true 2 entry.Lost 0 × StopsAt 3 true 2 entry.Kept 0
either_at_three = (
  record { reached = lit≤ tt; may_keep = lit≤ tt; unsent = λ early. refl; in_turn = λ late. absurd (omega (arith, late)) },
  record { reached = lit≤ tt; may_keep = lit≤ tt; unsent = λ early. refl; in_turn = λ late. absurd (omega (arith, late)) },
)

either_at_four : StopsAt 4 true 2 entry.Lost 0 × StopsAt 4 true 2 entry.Kept 0
either_at_four = (
  record { reached = lit≤ tt; may_keep = lit≤ tt; unsent = λ early. refl; in_turn = λ late. absurd (omega (arith, late)) },
  record { reached = lit≤ tt; may_keep = lit≤ tt; unsent = λ early. refl; in_turn = λ late. absurd (omega (arith, late)) },
)

none_out_at_four : StopsAt 4 true 2 entry.Kept 1 → ⊥
none_out_at_four stop = let none = stop.unsent (lit≤ tt) in omega (arith, none)

-- afterwards it is kept, and the frame that the call sends is out or not
kept_at_five : StopsAt 5 true 2 entry.Kept 0 × StopsAt 5 true 2 entry.Kept 1
kept_at_five = (
  record { reached = lit≤ tt; may_keep = lit≤ tt; unsent = λ early. refl; in_turn = λ late. inl refl },
  record { reached = lit≤ tt; may_keep = lit≤ tt; unsent = λ early. absurd (omega (arith, early)); in_turn = λ late. inr refl },
)

not_lost_at_five : (sent : ℕ) → StopsAt 5 true 2 entry.Lost sent → ⊥
not_lost_at_five sent stop = let may = stop.may_keep in omega (arith, may)

in_turn_at_six : StopsAt 6 true 2 entry.Kept 0 → ⊥
in_turn_at_six stop = ⊎_elim (λ (own : 5 ≡ 6). omega (arith, own)) (λ (own : 4 ≡ 6). omega (arith, own)) (stop.in_turn (lit≤ tt))

-- the sixth call is the last one: a stop there is reached, and one behind it isn't
reached_at_six : StepMayGo 6 true 2 (Stopped entry.Kept 2) × (StepMayGo 6 true 2 Through → ⊥)
reached_at_six = (
  record { reached = lit≤ tt; may_keep = lit≤ tt; unsent = λ early. absurd (omega (arith, early)); in_turn = λ late. inr refl },
  λ (through : 6 < 6). omega (arith, through),
)

through_before_seven : StepMayGo 7 true 2 Through × ((sent : ℕ) → StepMayGo 7 true 2 (Stopped entry.Kept sent) → ⊥)
through_before_seven = (lit≤ tt, λ sent (stop : StopsAt 7 true 2 entry.Kept sent). let there = stop.reached in omega (arith, there))

-- without an entry nothing is kept or lost, and the first call sends the first frame
plain_at_one : StopsAt 1 false 1 entry.Plain 1 × (StopsAt 1 false 1 entry.Kept 1 → ⊥) × (StopsAt 1 false 1 entry.Lost 0 → ⊥) × (StopsAt 5 true 2 entry.Plain 1 → ⊥)
plain_at_one = (
  record { reached = lit≤ tt; may_keep = tt; unsent = λ early. absurd (omega (arith, early)); in_turn = λ late. inr refl },
  (λ (stop : StopsAt 1 false 1 entry.Kept 1). stop.may_keep),
  (λ (stop : StopsAt 1 false 1 entry.Lost 0). stop.may_keep),
  (λ (stop : StopsAt 5 true 2 entry.Plain 1). stop.may_keep),
)

-- a resume of two frames over a journal of three records makes at most 28 calls, and at least three
resume_limits : (ResumeMayGo 3 2 3 Through → ⊥) × ResumeMayGo 4 2 3 Through × ResumeMayGo 28 2 3 (Stopped entry.Plain 2) × (ResumeMayGo 29 2 3 (Stopped entry.Plain 0) → ⊥)
resume_limits = (
  (λ (through : 3 < 3). omega (arith, through)),
  lit≤ tt,
  record { reached = lit≤ tt; nothing = refl; few = lit≤ tt },
  (λ stop. let there = stop.reached in omega (arith, there)),
)

-- frames are numbered from 1, and those to an endpoint among themselves
numbers : (numbered known.from_host 0 ≡ None) × (numbered known.from_host 1 ≡ Some (acked (codes " "))) × (numbered known.from_host 5 ≡ None)
    × (numbered (sent_to beta_line known.from_host) 1 ≡ Some (given (codes "P"))) × (numbered (sent_to alpha_line known.from_host) 3 ≡ Some (acked (codes "P")))
numbers = (refl, refl, refl, refl, refl)

none_delivered : (effect known (Deliver Host 2) ≡ Missing) × (effect known (Deliver (Bank beta_line) 2) ≡ Missing)
none_delivered = (refl, refl)

-- an endpoint that has a bank submits nothing by itself, one that has none drafts nothing, and the clock isn't stopped
not_bare : (text : List ℕ) → IsAct banks (Submit alpha_line text) → ⊥
not_bare text is = let wrong : true ≡ false = is.0.apart in absurd cc

not_a_bank : (text : List ℕ) → IsAct banks (Draft operator text) → ⊥
not_a_bank text is = let wrong : false ≡ true = is.0 in absurd cc

not_stopped : (moment : ℕ) → IsStop (Some (1, 0)) (Clock moment) → ⊥
not_stopped moment may = may.0

from_the_first_call : IsStop (Some (0, 0)) (Tick alpha_line) → ⊥
from_the_first_call may = let first = may.1 in omega (arith, first)

-- the configuration of the day is sound, its events may happen, and so all of it is safe
config_sound : IsConfig config
unfolding IsDistinct days_of_months days_of_years row_of permitted
config_sound = record {
  env = inl refl;
  date = lit≤ tt;
  customer = lit≤ tt;
  bank = lit≤ tt;
  some = lit≤ tt;
  accounts = record {
    each = (
      record { aba = (refl, refl); check = refl; endpoint = (refl, refl); not_operator = bytes_differ alpha_line operator refl; opening = lit≤ tt; floor = lit≤ tt },
      (record { aba = (refl, refl); check = refl; endpoint = (refl, refl); not_operator = bytes_differ beta_line operator refl; opening = lit≤ tt; floor = lit≤ tt }, tt),
    );
    most = lit≤ tt;
    distinct = ((refl, tt), (tt, tt));
    endpoints = lit≤ tt;
  };
}

banks_distinct : IsDistinct bytes_eq banks
unfolding IsDistinct
banks_distinct = ((refl, tt), (tt, tt))

are_banks : AreBanks config.accounts banks
are_banks = record { distinct = banks_distinct; most = lit≤ tt; served = (refl, (refl, tt)) }

may_happen : AllByRecursion (IsEvent banks) events
may_happen = (
  record { act = lit≤ tt; stop = tt },
  (
    record { act = (refl, lit≤ tt); stop = tt },
    (
      record { act = (tt, lit≤ tt, lit≤ tt); stop = (tt, lit≤ tt, lit≤ tt, lit≤ tt) },
      (
        record { act = (tt, lit≤ tt, lit≤ tt); stop = tt },
        (
          record { act = (refl, lit≤ tt, lit≤ tt); stop = tt },
          (
            record { act = (refl, lit≤ tt, lit≤ tt); stop = tt },
            (record { act = (refl, lit≤ tt, lit≤ tt); stop = tt }, tt),
          ),
        ),
      ),
    ),
  ),
)

day_safe : Safe received
day_safe = run_safe (started config banks) received events outcomes (started_safe config banks config_sound are_banks) may_happen run
