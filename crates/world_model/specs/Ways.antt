-- How an act goes, and where it lands.
use Rattle.std.specs.Prelude.{◌≡◌, ℕ, ◌≤◌, Bool, true, false, List, ◌++◌, length, take, if◌then◌else◌, None, IsSome}
use Rattle.link_frames.specs.Frames.{Content as Frame}
use Rattle.faim_model.specs.Steps.{HostStep}
use Rattle.faim_model.specs.Landing.{kept_of, landed}
use Rattle.faim_model.specs.Sending.{resume_frames}
use Rattle.faim_model.specs.Sessions.{recent_with}
use Rattle.bank_turns.specs.BankSteps.{BankStep, adds_to}
use Rattle.world_events.specs.declared.outcomes.Kept.{Kept}
use Rattle.world_events.specs.declared.outcomes.Kept.TheVariants as entry
use Rattle.world_model.specs.Worlds.{World, books_with}
use Rattle.world_model.specs.Effects.{Effect, Sets, Missing, AtHost, AtBank, ResumesHost, ResumesBank}

-- through to its end; or up to a stop, with what became of its entry and how many of its frames went out
pub data Way : Type 0 where
  Through : Way
  Stopped : (fate : Kept) (sent : ℕ) → Way

abbrev pub is_kept : Kept → Bool
is_kept entry.Kept = true
is_kept entry.Lost = false
is_kept entry.Plain = false

-- the host's step, with its entry kept or not, and the first frames sent, so many of them
abbrev pub host_lands : World → HostStep → Bool → ℕ → World
host_lands w step kept n = record w {
  entries = (landed w.entries w.from_host step kept n).entries;
  recent = recent_with w.recent (kept_of kept step.adds);
  from_host = (landed w.entries w.from_host step kept n).frames;
}

-- the same of a step of the bank of an endpoint
abbrev pub bank_lands : World → List ℕ → BankStep → Bool → ℕ → World
bank_lands w e step kept n = record w {
  books = books_with e (adds_to (if kept then step.adds else None) (w.books e)) w.books;
  to_host = w.to_host ++ take n step.sends;
}

-- no more frames are sent than a bank's step has, and none while its entry isn't kept
pub record BankInOrder (step : BankStep) (kept : Bool) (n : ℕ) : Type 0 where
  pub few : n ≤ length step.sends
  pub unkept : IsSome step.adds → kept ≡ false → n ≡ 0

-- what the host sends when it is resumed; a bank sends nothing then
abbrev pub owed : World → List Frame
owed w = resume_frames w.config w.entries w.recent

-- the first of these frames are sent, so many of them; all are
abbrev pub resume_lands : World → ℕ → World
resume_lands w n = record w { from_host = w.from_host ++ take n (owed w) }

abbrev pub resumed : World → World
resumed w = record w { from_host = w.from_host ++ owed w }

-- the world after an act that went this way; an end that was stopped is resumed
abbrev pub after : World → Effect → Way → World
after w (Sets moment) way = record w { moment = moment }
after w Missing way = w
after w (AtHost step) Through = host_lands w step true (length step.sends)
after w (AtHost step) (Stopped fate sent) = resumed (host_lands w step (is_kept fate) sent)
after w (AtBank e step) Through = bank_lands w e step true (length step.sends)
after w (AtBank e step) (Stopped fate sent) = bank_lands w e step (is_kept fate) sent
after w ResumesHost Through = resumed w
after w ResumesHost (Stopped fate sent) = resumed (resume_lands w sent)
after w (ResumesBank e) way = w
