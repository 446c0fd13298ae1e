-- What stands at a moment inside a step.
use Rattle.std.specs.Prelude.{◌≡◌, ◌⊎◌, ℕ, ◌-◌, ◌≤◌, Bool, true, List, Option, Some, None}
use Rattle.world_events.specs.declared.acts.Event.{Event}
use Rattle.world_events.specs.declared.outcomes.Outcome.{Outcome}
use Rattle.world_model.specs.Worlds.{World}
use Rattle.world_model.specs.WorldSteps.{WorldStep, calls_before}
use Rattle.world_model.specs.Runs.{IsGrownFrom}

-- what a step can have come to by a device call, counted from 1: its entry isn't kept before the third call, and as many frames
-- are out at most as there are calls after those that append the entry
pub record IsByCall (call : ℕ) (adds kept : Bool) (n : ℕ) : Type 0 where
  pub secured : adds ≡ true → kept ≡ true → 3 ≤ call
  pub made : n ≤ call - calls_before adds

-- the same where a stop is set at a call; where none is set, it can have come to anything
abbrev pub IsUpTo : Option ℕ → Bool → Bool → ℕ → Type 0
IsUpTo None adds kept n = Unit {0}
IsUpTo (Some call) adds kept n = IsByCall call adds kept n

-- the host's list, and how many entries its last record has, are the same in two worlds
abbrev pub SameHost : World → World → Type 0
SameHost w other = (w.entries ≡ other.entries) × (w.recent ≡ other.recent)

-- a world lies in a step: the event may lead on from one world to another, and nothing of the one is lost in what stands here,
-- nor of this in the other. The host's list and each bank's are those of the one or of the other
pub record LiesIn (w : World) (event : Event) (moment : World) : Type 0 where
  pub x : Outcome
  pub next : World
  pub step : WorldStep w event x next
  pub begins : IsGrownFrom w moment
  pub ends : IsGrownFrom moment next
  pub host : SameHost moment w ⊎ SameHost moment next
  pub banks : (e : List ℕ) → (moment.books e ≡ w.books e) ⊎ (moment.books e ≡ next.books e)
