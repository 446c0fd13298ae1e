-- The frames that a host sends, and which of them a list of entries, the newest first, covers.
use Rattle.std.specs.Prelude.{◌≡◌, ◌⊎◌, ℕ, Bool, List, [], ◌∷◌, Option, Some, None, is_some, IfSome, option_and_then, IsTrue}
use Rattle.std.specs.List.{Contains, list_any}
use Rattle.faim_base.specs.declared.ids.Imad.{Imad}
use Rattle.faim_base.specs.declared.judgement.Reject.{Reject}
use Rattle.faim_base.specs.Numbers.{IsMoment}
use Rattle.faim_base.specs.Ranges.{IsEndpoint, IsImad}
use Rattle.faim_base.specs.Refusals.{h102, x201}
use Rattle.faim_message.specs.Spelling.{Content, message_spelling}
use Rattle.faim_edits.specs.Texts.{is_same, is_turned_away}
use Rattle.link_frames.specs.declared.frame.FrameKind.{FrameKind}
use Rattle.link_frames.specs.declared.frame.FrameKind.TheVariants.{Ack, Output}
use Rattle.link_frames.specs.Frames.{Content as Frame}
use Rattle.host_ledger.specs.declared.config.Config.{Config}
use Rattle.host_ledger.specs.declared.entries.Entry.{Entry}
use Rattle.host_ledger.specs.declared.entries.Entry.TheVariants.{Posted, Roll}
use Rattle.faim_model.specs.Outputs.{Item, outputs}
use Rattle.faim_model.specs.Turns.{entry_at}
use Rattle.faim_model.specs.Acks.{turned_ack, verdict_ack}
use Rattle.faim_model.specs.Deliveries.{output_message}

-- a message in a frame to an endpoint
abbrev pub framed : FrameKind → List ℕ → Content → Frame
framed kind e m = record { kind = kind; endpoint = e; payload = message_spelling m }

-- the acknowledgement of an entry's message, to its source; a Roll has none
abbrev pub ack_of : Config → ℕ → Entry → Option Frame
ack_of c mark (Posted h body resent moment v) = Some (framed Ack h.imad.source (verdict_ack c.env h moment v mark))
ack_of c mark (Roll moment date) = None

-- the acknowledgement of the entry at a place
abbrev pub ack : Config → List Entry → ℕ → ℕ → Option Frame
ack c es place mark = option_and_then (ack_of c mark) (entry_at es place)

-- the acknowledgement of a submission that was turned away, to the endpoint that it came from
abbrev pub turned : Config → Reject → Option Imad → ℕ → List ℕ → Frame
turned c why imad moment e = framed Ack e (turned_ack c.env why imad moment)

-- an item of an endpoint's outputs, to that endpoint
abbrev pub output : Config → List ℕ → Item → ℕ → Frame
output c e i mark = framed Output e (output_message c.env e i mark)

-- the mark of an acknowledgement: a blank at the first sending, P afterwards
abbrev pub IsAckMark : ℕ → Type 0
IsAckMark mark = (mark ≡ 32) ⊎ (mark ≡ 80)

-- the mark of an output: a blank at the first sending, P after a restart, R in a retrieval
abbrev pub IsOutputMark : ℕ → Type 0
IsOutputMark mark = (mark ≡ 32) ⊎ ((mark ≡ 80) ⊎ (mark ≡ 82))

-- a submission that is turned away with this refusal has an identifier
abbrev pub has_identifier : Reject → Bool
has_identifier why = list_any (is_same why) (h102 ∷ x201 ∷ [])

-- the frame acknowledges an entry of the list
pub record IsAck (c : Config) (es : List Entry) (f : Frame) : Type 0 where
  pub place : ℕ
  pub mark : ℕ
  pub marked : IsAckMark mark
  pub sent : ack c es place mark ≡ Some f

-- the frame is one of the list's outputs
pub record IsOutput (c : Config) (es : List Entry) (f : Frame) : Type 0 where
  pub line : List ℕ
  pub item : Item
  pub there : Contains (outputs c es line) item
  pub mark : ℕ
  pub marked : IsOutputMark mark
  pub sent : output c line item mark ≡ f

-- the frame turns a submission away
pub record IsTurned (c : Config) (f : Frame) : Type 0 where
  pub why : Reject
  pub away : IsTrue (is_turned_away why)
  pub imad : Option Imad
  pub identified : is_some imad ≡ has_identifier why
  pub imad_sound : IfSome imad IsImad
  pub moment : ℕ
  pub moment_sound : IsMoment moment
  pub line : List ℕ
  pub line_sound : IsEndpoint line
  pub sent : turned c why imad moment line ≡ f

-- a frame that a host with these entries may have sent
abbrev pub Covered : Config → List Entry → Frame → Type 0
Covered c es f = IsAck c es f ⊎ (IsOutput c es f ⊎ IsTurned c f)
