-- What a splitter was fed of the bytes that a reader holds.
use Rattle.std.specs.Prelude.{◌≡◌, ℕ, ◌+◌, ◌≤◌, List, ◌++◌, length, take, drop, Option, None}
use Rattle.link_frames.specs.declared.fault.FrameFault.{FrameFault}
use Rattle.link_frames.specs.Held.{greatest_frame}
use Rattle.link_frames.specs.Splits.{fault_at, front_length}

-- it was fed what belongs to the frame at the front, as far as that is there: so many bytes, with the fault that shows
pub record Settled (fed unfed : List ℕ) (count : ℕ) (fault : Option FrameFault) : Type 0 where
  pub counted : count ≡ length fed
  pub few : count ≤ greatest_frame
  pub shown : fault ≡ fault_at (fed ++ unfed)
  pub same : fault ≡ fault_at fed
  pub front : fault ≡ None → fed ≡ take (front_length (fed ++ unfed)) (fed ++ unfed)

-- so many bytes of a piece were fed, after which it is settled
pub record Feeds (old piece new : List ℕ) (count : ℕ) (fault : Option FrameFault) : Type 0 where
  pub within : count ≤ length piece
  pub is : new ≡ old ++ take count piece
  pub settled : Settled new (drop count piece) (length old + count) fault
