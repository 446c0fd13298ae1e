-- What the objects of a session tell, and what came from them.
use Rattle.std.specs.Prelude.{◌≡◌, ℕ, ◌+◌, ◌≤◌, List, ◌++◌, length, map, take, Option}
use Rattle.std.specs.List.{AllByRecursion}
use Rattle.std.specs.Io.KnownBytes.{Consumes, append_known}
use Rattle.site_core.specs.Told.{Told}
use Rattle.link_frames.specs.Frames.{Content as Frame}
use Rattle.link_frames.specs.Splits.{Splits}
use Rattle.framed_input.specs.Limits.{greatest_input}
use Rattle.node_session.specs.Kinds.{Kind}

-- the bytes that the source has left, the readings that the clock has given, and what the site did, each where it is told
pub record View : Type 0 where
  pub left : Option (List ℕ)
  pub given : Option (List ℕ)
  pub site : Option Told

-- the frames of arrivals
abbrev pub frames_of : {O E X A K : Type 0} → Kind O E X A K → List A → List Frame
frames_of kind arrivals = map kind.frame_of arrivals

-- these bytes were taken from the source, at most one more than an input may have, and these frames arrived, each with the
-- next readings of the clock that it takes; they are the first frames of the input, whatever comes after the bytes
pub record HasCome {O E X A K : Type 0} (kind : Kind O E X A K) (arrivals : List A) (bytes : List ℕ) (old new : View) : Type 0 where
  pub taken : Consumes old.left new.left bytes
  pub few : length bytes ≤ greatest_input + 1
  pub read : new.given ≡ append_known old.given (kind.readings_of arrivals)
  pub each : AllByRecursion kind.IsArrival arrivals
  pub first : (more : List ℕ) (all : List Frame) (rest : List ℕ) → Splits (take greatest_input bytes ++ more) all rest
      → (later : List Frame) × (all ≡ frames_of kind arrivals ++ later)
