-- What filling up the frame that is being read does.
use Rattle.std.specs.Prelude.{◌≡◌, ◌↔◌, ◌⊎◌, ℕ, ◌+◌, ◌≤◌, List, [], ◌++◌, length, take, true, Option, Some, None, IsTrue}
use Rattle.link_frames.specs.declared.fault.FrameFault.{FrameFault}
use Rattle.link_frames.specs.Held.{is_held, head_length, greatest_frame}
use Rattle.link_frames.specs.Splits.{fault_at, is_whole, front_length}

-- the bytes that were held, the piece, those that are held then; their counts, and the fault that they show
pub record Fills (old piece new : List ℕ) (before count : ℕ) (fault : Option FrameFault) : Type 0 where
  pub long : count ≤ greatest_frame
  pub grew : before ≤ count
  pub within : count ≤ before + length piece
  pub is : (n : ℕ) → before + n ≡ count → new ≡ old ++ take n piece
  pub held : IsTrue (is_held new)
  pub shown : fault ≡ fault_at new
  pub same : fault ≡ fault_at (old ++ piece)
  pub front : fault ≡ None → new ≡ take (front_length (old ++ piece)) (old ++ piece)
  pub none : fault ≡ None → (count ≡ before) ↔ ((is_whole old ≡ true) ⊎ (piece ≡ []))
  pub cut : (e : FrameFault) → fault ≡ Some e → fault_at old ≡ None → new ≡ take head_length (old ++ piece)
