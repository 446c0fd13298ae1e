-- A step of a world: which ways an act may go, and what it brings about.
use Rattle.std.specs.Prelude.{◌≡◌, ◌⊎◌, ℕ, ◌+◌, ◌*◌, ◌<◌, ◌≤◌, Bool, true, false, length, is_some, Option, Some, None}
use Rattle.world_events.specs.declared.acts.Event.{Event}
use Rattle.world_events.specs.declared.outcomes.Kept.{Kept}
use Rattle.world_events.specs.declared.outcomes.Kept.TheVariants as entry
use Rattle.world_events.specs.declared.outcomes.Outcome.{Outcome}
use Rattle.world_events.specs.declared.outcomes.Outcome.TheVariants as outcome
use Rattle.world_model.specs.Worlds.{World}
use Rattle.world_model.specs.Effects.{Effect, Sets, Missing, AtHost, AtBank, ResumesHost, ResumesBank, effect}
use Rattle.world_model.specs.Ways.{Way, Through, Stopped, after, owed}

-- how many device calls come before the first frame: the four that append the entry, where one is added
abbrev pub calls_before : Bool → ℕ
calls_before true = 4
calls_before false = 0

-- what a stop at a call may leave of an entry: it is lost up to the second call and kept after the fourth, and at the third
-- and the fourth it is one or the other
abbrev pub MayKeep : ℕ → Bool → Kept → Type 0
MayKeep call true entry.Kept = 3 ≤ call
MayKeep call true entry.Lost = call ≤ 4
MayKeep call false entry.Plain = Unit {0}
MayKeep call adds fate = ⊥

-- a stop at a call is reached in a step that adds an entry or none and sends so many frames. It leaves the entry kept or lost,
-- and these frames sent: none before the first call that sends one; then those of the calls before it, and its own or not
pub record StopsAt (call : ℕ) (adds : Bool) (frames : ℕ) (fate : Kept) (sent : ℕ) : Type 0 where
  pub reached : call ≤ calls_before adds + frames
  pub may_keep : MayKeep call adds fate
  pub unsent : call ≤ calls_before adds → sent ≡ 0
  pub in_turn : calls_before adds < call → (calls_before adds + sent + 1 ≡ call) ⊎ (calls_before adds + sent ≡ call)

-- the ways of a step over a frame where a stop is set at a call
abbrev pub StepMayGo : ℕ → Bool → ℕ → Way → Type 0
StepMayGo call adds frames Through = calls_before adds + frames < call
StepMayGo call adds frames (Stopped fate sent) = StopsAt call adds frames fate sent

-- how many device calls a resume makes at most beside its frames, by the records of its journal: its opening and at most one
-- record an entry
abbrev pub most_calls : ℕ → ℕ
most_calls records = 6 * records + 8

-- a stop at a call of a resume, that sends so many frames, leaves some of them sent and adds nothing
pub record ResumeStopsAt (call frames records : ℕ) (fate : Kept) (sent : ℕ) : Type 0 where
  pub reached : call ≤ frames + most_calls records
  pub nothing : fate ≡ entry.Plain
  pub few : sent ≤ frames

-- the ways of a resume: it begins with a call of its own and makes one for each frame
abbrev pub ResumeMayGo : ℕ → ℕ → ℕ → Way → Type 0
ResumeMayGo call frames records Through = frames + 1 < call
ResumeMayGo call frames records (Stopped fate sent) = ResumeStopsAt call frames records fate sent

-- the ways that an act may go, with a stop set at a call or none
abbrev pub MayGo : World → Option ℕ → Effect → Way → Type 0
MayGo w stop (Sets moment) way = way ≡ Through
MayGo w stop Missing way = way ≡ Through
MayGo w None (AtHost step) way = way ≡ Through
MayGo w (Some call) (AtHost step) way = StepMayGo call (is_some step.adds) (length step.sends) way
MayGo w None (AtBank e step) way = way ≡ Through
MayGo w (Some call) (AtBank e step) way = StepMayGo call (is_some step.adds) (length step.sends) way
MayGo w None ResumesHost way = way ≡ Through
MayGo w (Some call) ResumesHost way = ResumeMayGo call (length (owed w)) (2 + length w.entries) way
MayGo w None (ResumesBank e) way = way ≡ Through
MayGo w (Some call) (ResumesBank e) way = ResumeMayGo call 0 (2 + length (w.books e)) way

-- what an act brings about that goes through
abbrev pub done : World → Effect → Outcome
done w (Sets moment) = outcome.Silent
done w Missing = outcome.NoFrame
done w (AtHost step) = outcome.Host step.outcome
done w (AtBank e step) = outcome.Bank e step.outcome
done w ResumesHost = outcome.Restarted (length (owed w))
done w (ResumesBank e) = outcome.Restarted 0

abbrev pub told : World → Effect → Way → Outcome
told w act Through = done w act
told w act (Stopped fate sent) = outcome.Stopped fate sent

-- the call that a stop is set at
abbrev pub call_of : Option (ℕ × ℕ) → Option ℕ
call_of None = None
call_of (Some stop) = Some stop.0

-- an event brings this about, and the world is this one after it
pub record WorldStep (w : World) (event : Event) (x : Outcome) (next : World) : Type 0 where
  pub way : Way
  pub may : MayGo w (call_of event.stop) (effect w event.act) way
  pub tells : x ≡ told w (effect w event.act) way
  pub gives : next ≡ after w (effect w event.act) way
