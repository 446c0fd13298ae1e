-- What a session knows of the input that it reads.
use Rattle.std.specs.Prelude.{◌≡◌, List, ℕ, ◌++◌, length, take}
use Rattle.std.specs.List.{flat_map, AllByRecursion}
use Rattle.link_frames.specs.Frames.{Content, IsFrame, frame_bytes}
use Rattle.framed_input.specs.Intake.{Intake}
use Rattle.framed_input.specs.Limits.{greatest_input}

-- these bytes were taken, these frames of them were handed out, and what comes after the frames is held
pub record HasRead (bytes : List ℕ) (frames : List Content) (now : Intake) : Type 0 where
  pub counted : now.taken ≡ length bytes
  pub each : AllByRecursion IsFrame frames
  pub is : take greatest_input bytes ≡ flat_map frame_bytes frames ++ now.held
