-- What a stop at a moment of sessions leaves, as those who rely on a host read it.
use Rattle.std.specs.Prelude.{◌≡◌, ◌⊎◌, ℕ, List, [], ◌∷◌, ◌++◌, map}
use Rattle.std.specs.List.{Contains}
use Rattle.link_frames.specs.Frames.{Content as Frame, frame_bytes}
use Rattle.host_ledger.specs.declared.config.Config.{Config}
use Rattle.host_ledger.specs.declared.entries.Entry.{Entry}
use Rattle.faim_model.specs.Frames.{Covered}
use Rattle.faim_model.specs.Sending.{frames_of, resume_frames, unmarked}
use Rattle.faim_model.specs.Sessions.{Arrival, IsArrival}
use Rattle.node_session.specs.Kinds.{Event, KeptStands, kept_after}
use Rattle.node_session.specs.Kinds.Event.{Resumed, Came}
use Rattle.host_session.specs.HostKind.{Kept, host_kind, step_of}

-- what comes is a frame, at a moment of the calendar
abbrev pub IsSound : Event Arrival → Type 0
IsSound Resumed = Unit {0}
IsSound (Came a) = IsArrival a

-- the frames that a host sends at an event, and at several in their order
abbrev pub frames_for : Kept → Event Arrival → List Frame
frames_for kept Resumed = resume_frames kept.config kept.entries kept.recent
frames_for kept (Came a) = (step_of kept a).sends

abbrev pub all_frames : Kept → List (Event Arrival) → List Frame
all_frames kept [] = []
all_frames kept (event ∷ later) = frames_for kept event ++ all_frames (kept_after host_kind kept event) later

-- a list is another one with newer entries in front of it: none of that was lost or changed
pub record IsGrownFrom (es grown : List Entry) : Type 0 where
  pub newer : List Entry
  pub are : grown ≡ newer ++ es

-- the frames of newer entries at their first sending, the oldest entry's first
abbrev pub first_sent : Config → List Entry → List Entry → List Frame
first_sent c es [] = []
first_sent c es (x ∷ newer) = first_sent c es newer ++ frames_of c (newer ++ es) x 32

-- the frame is out, the same but for its mark
abbrev pub IsOut : Frame → List (List ℕ) → Type 0
IsOut f out = (g : Frame) × Contains out (frame_bytes g) × (unmarked g ≡ unmarked f)

-- a resume of what is kept sends the frame, the same but for its mark
abbrev pub IsOwed : Frame → Kept → Type 0
IsOwed f kept = (g : Frame) × Contains (resume_frames kept.config kept.entries kept.recent) g × (unmarked g ≡ unmarked f)

-- each of these frames is out, or it is owed
abbrev pub NoneMissed : List Frame → Kept → List (List ℕ) → Type 0
NoneMissed frames kept out = (f : Frame) → Contains frames f → IsOut f out ⊎ IsOwed f kept

-- each of these is a frame that what is kept covers
abbrev pub AllCovered : Kept → List (List ℕ) → Type 0
AllCovered kept out = (bytes : List ℕ) → Contains out bytes → (f : Frame) × (frame_bytes f ≡ bytes) × Covered kept.config kept.entries f

-- the image stands for a list that has grown from what was kept, and from which the last list grows; the frames that are out
-- are the first of all, and each of them is covered by that list; and each frame of its newer entries is out, or it is owed
pub record IsSafe (kept : Kept) (last : List Entry) (frames : List Frame) (before : List (List ℕ)) (image : List ℕ) (found : List (List ℕ)) : Type 0 where
  pub now : Kept
  pub stands : KeptStands host_kind image now
  pub config : now.config ≡ kept.config
  pub opening : IsGrownFrom kept.entries now.entries
  pub closing : IsGrownFrom now.entries last
  pub out : List Frame
  pub later : List Frame
  pub in_order : frames ≡ out ++ later
  pub found_are : found ≡ before ++ map frame_bytes out
  pub covered : (f : Frame) → Contains out f → Covered now.config now.entries f
  pub owed : (f : Frame) → Contains (first_sent kept.config kept.entries opening.newer) f → Contains out f ⊎ IsOwed f now
