-- What the bytes that are held answer without a read, and at the end of the input.
use Rattle.std.specs.Prelude.{◌≡◌, ℕ, ◌+◌, ◌<◌, ◌≤◌, ◌||◌, Bool, true, false, List, nat_lt, if◌then◌else◌, Option, Some, None, is_some, Result, Ok, Err}
use Rattle.link_frames.specs.declared.fault.FrameFault.{FrameFault}
use Rattle.link_frames.specs.Splits.{fault_at, is_whole, end_at}
use Rattle.framed_input.specs.declared.ends.InputEnd.{InputEnd}
use Rattle.framed_input.specs.declared.ends.InputEnd.TheVariants.{Frame, TooLong}
use Rattle.framed_input.specs.Intake.{Intake}
use Rattle.framed_input.specs.Limits.{greatest_input}

-- a whole frame or a fault stands at the front
abbrev pub stands : List ℕ → Bool
stands bytes = is_whole bytes || is_some (fault_at bytes)

-- the answer that needs no read, where there is one: a fault, a whole frame, or that more than the limit was taken
abbrev pub standing_by : Option FrameFault → Bool → Bool → Option (Result Bool InputEnd)
standing_by (Some e) whole beyond = Some (Err (Frame e))
standing_by None whole beyond = if whole then Some (Ok true) else (if beyond then Some (Err TooLong) else None)

abbrev pub standing : ℕ → Intake → Option (Result Bool InputEnd)
standing limit now = standing_by (fault_at now.held) (is_whole now.held) (nat_lt limit now.taken)

-- the answer at the end of the input, where no frame and no fault stands: that it ended, or that it cuts a frame off
abbrev pub ended_by : Result (Unit {0}) FrameFault → Result Bool InputEnd
ended_by (Ok u) = Ok false
ended_by (Err e) = Err (Frame e)

abbrev pub ended : List ℕ → Result Bool InputEnd
ended held = ended_by (end_at held)

-- one byte more than an input has is taken at most, and nothing stands where it was
pub record KeepsLimit (now : Intake) : Type 0 where
  pub most : now.taken ≤ greatest_input + 1
  pub none : greatest_input < now.taken → stands now.held ≡ false
