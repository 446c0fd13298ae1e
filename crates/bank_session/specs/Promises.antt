-- What a stop at a moment of sessions leaves, as those who rely on a bank read it.
use Rattle.std.specs.Prelude.{◌≡◌, ◌⊎◌, ℕ, List, [], ◌++◌, map}
use Rattle.std.specs.List.{Contains}
use Rattle.faim_base.specs.declared.ids.OutPos.{OutPos}
use Rattle.link_frames.specs.Frames.{Content as Frame, IsFrame, frame_bytes}
use Rattle.bank_books.specs.declared.entries.BankEntry.{BankEntry}
use Rattle.bank_books.specs.declared.entries.BankOpening.{BankOpening}
use Rattle.bank_books.specs.Drafts.{Draft, drafts}
use Rattle.bank_turns.specs.Drafting.{retrieve, submit}
use Rattle.node_session.specs.Kinds.{Event, KeptStands, kept_after}
use Rattle.node_session.specs.Kinds.Event.{Resumed, Came}
use Rattle.node_session.specs.Sent.{frames_in_order}
use Rattle.bank_session.specs.BankKind.{Kept, bank_kind, step_at}

-- what comes is a frame
abbrev pub IsSound : Event Frame → Type 0
IsSound Resumed = Unit {0}
IsSound (Came f) = IsFrame f

-- the frames that a bank sends at an event, and at several in their order
abbrev pub frames_for : Kept → Event Frame → List Frame
frames_for kept Resumed = []
frames_for kept (Came f) = (step_at kept f).sends

abbrev pub all_frames : Kept → List (Event Frame) → List Frame
all_frames kept events = frames_in_order (kept_after bank_kind) frames_for kept events

-- the frame submits a draft of the list, with a blank as its mark or P
pub record IsSubmission (es : List BankEntry) (f : Frame) : Type 0 where
  pub draft : Draft
  pub there : Contains (drafts es) draft
  pub mark : ℕ
  pub marked : (mark ≡ 32) ⊎ (mark ≡ 80)
  pub sent : f ≡ submit draft.imad draft.text mark

-- the frame asks for the bank's outputs from a position on
pub record IsRetrieval (o : BankOpening) (f : Frame) : Type 0 where
  pub at : OutPos
  pub sent : f ≡ retrieve o.endpoint at

-- a frame that a bank with these entries may have sent
abbrev pub Covered : BankOpening → List BankEntry → Frame → Type 0
Covered o es f = IsSubmission es f ⊎ IsRetrieval o f

-- each of these is a frame that what is kept covers
abbrev pub AllCovered : Kept → List (List ℕ) → Type 0
AllCovered kept out = (bytes : List ℕ) → Contains out bytes → (f : Frame) × (frame_bytes f ≡ bytes) × Covered kept.opening kept.entries f

-- a list is another one with newer entries in front of it: none of that was lost or changed
pub record IsGrownFrom (es grown : List BankEntry) : Type 0 where
  pub newer : List BankEntry
  pub are : grown ≡ newer ++ es

-- the image stands for a list that has grown from what was kept, and from which the last list grows; and the frames that are
-- out are the first of all, and each of them is covered by that list: so each draft that is out is kept
pub record IsSafe (kept : Kept) (last : List BankEntry) (frames : List Frame) (before : List (List ℕ)) (image : List ℕ) (found : List (List ℕ)) : Type 0 where
  pub now : Kept
  pub stands : KeptStands bank_kind image now
  pub opened : now.opening ≡ kept.opening
  pub opening : IsGrownFrom kept.entries now.entries
  pub closing : IsGrownFrom now.entries last
  pub out : List Frame
  pub later : List Frame
  pub in_order : frames ≡ out ++ later
  pub found_are : found ≡ before ++ map frame_bytes out
  pub covered : (f : Frame) → Contains out f → Covered now.opening now.entries f
