-- What calls take from a source, and what they answer.
use Rattle.std.specs.Prelude.{◌≡◌, ◌↔◌, ℕ, ◌+◌, ◌-◌, ◌<◌, ◌≤◌, Bool, true, false, List, [], ◌++◌, length, take, Option, Some, Result, Ok, Err}
use Rattle.std.specs.Io.KnownBytes.{Consumes, IsAtEnd}
use Rattle.link_frames.specs.declared.fault.FrameFault.{FrameFault}
use Rattle.link_frames.specs.declared.fault.FrameFault.TheVariants.{CutFrame}
use Rattle.link_frames.specs.Splits.{fault_at, is_whole, end_at}
use Rattle.framed_input.specs.declared.ends.InputEnd.{InputEnd}
use Rattle.framed_input.specs.declared.ends.InputEnd.TheVariants.{Frame}
use Rattle.framed_input.specs.Intake.{Intake}
use Rattle.framed_input.specs.Limits.{greatest_piece}
use Rattle.framed_input.specs.Standing.{stands}

-- a call took these bytes and holds those within the limit; where it took any, nothing stood yet without the last 4,096
pub record Takes (limit : ℕ) (left rest : Option (List ℕ)) (old new : Intake) : Type 0 where
  pub more : List ℕ
  pub source : Consumes left rest more
  pub counted : new.taken ≡ old.taken + length more
  pub grew : new.held ≡ old.held ++ take (limit - old.taken) more
  pub few : 0 < length more → stands (old.held ++ take (length more - greatest_piece) more) ≡ false

-- one read gave a piece of so many bytes
pub record TakesPiece (limit count : ℕ) (left rest : Option (List ℕ)) (old new : Intake) : Type 0 where
  pub piece : List ℕ
  pub long : length piece ≡ count
  pub source : Consumes left rest piece
  pub counted : new.taken ≡ old.taken + count
  pub grew : new.held ≡ old.held ++ take (limit - old.taken) piece
  pub few : count ≤ greatest_piece
  pub most : new.taken ≤ limit + 1

-- what a call answers, by what is held then: `Ok(true)` and the fault of bytes exactly where these show it; what is no fault
-- of bytes is a frame that the end cuts off; and an end between two frames leaves nothing
pub record Answers (result : Result Bool InputEnd) (held : List ℕ) (rest : Option (List ℕ)) : Type 0 where
  pub frame : (result ≡ Ok true) ↔ (is_whole held ≡ true)
  pub fault : (e : FrameFault) → fault_at held ≡ Some e → result ≡ Err (Frame e)
  pub bad : (e : FrameFault) → result ≡ Err (Frame e) → end_at held ≡ Err e
  pub cut : (n : ℕ) → result ≡ Err (Frame (CutFrame n)) → IsAtEnd rest
  pub done : result ≡ Ok false → (held ≡ []) × IsAtEnd rest
