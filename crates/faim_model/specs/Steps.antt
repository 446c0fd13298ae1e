-- What a host does with a frame from a line (docs/FORMATS.md, "The order of verdicts" and "What a host sends").
use Rattle.std.specs.Prelude.{ℕ, ◌==◌, nat_lt, List, [], ◌∷◌, length, map, bytes_eq, if◌then◌else◌, Option, Some, None}
use Rattle.std.specs.List.{flat_map}
use Rattle.std.specs.Option.{option_to_list}
use Rattle.faim_base.specs.declared.ids.Imad.{Imad}
use Rattle.faim_base.specs.declared.ids.OutPos.{OutPos}
use Rattle.faim_base.specs.Calendar.{read_date}
use Rattle.faim_base.specs.Ids.{read_position}
use Rattle.link_frames.specs.declared.frame.FrameKind.{FrameKind}
use Rattle.link_frames.specs.Frames.{Content as Frame}
use Rattle.host_ledger.specs.declared.config.Config.{Config}
use Rattle.host_ledger.specs.declared.entries.Entry.{Entry}
use Rattle.host_ledger.specs.declared.entries.Entry.TheVariants.{Roll}
use Rattle.host_ledger.specs.Soundness.{operator}
use Rattle.host_ledger.specs.Sums.{cycle}
use Rattle.faim_model.specs.declared.decisions.HostOutcome.{HostOutcome}
use Rattle.faim_model.specs.declared.decisions.HostOutcome.TheVariants.{Rolled, NotLater, Strange}
use Rattle.faim_model.specs.Outputs.{retrieved}
use Rattle.faim_model.specs.Submissions.{Submission, Numbered, submission}
use Rattle.faim_model.specs.Verdicts.{Answer, Now, Before, Turned, verdict_on}
use Rattle.faim_model.specs.Turns.{HostTurn, effective, retrieved_turn, stays, turn_at}
use Rattle.faim_model.specs.Frames.{ack, output, turned}
use Rattle.faim_model.specs.Sending.{frames_of}

-- an entry or none, the frames in their order, and the outcome
pub record HostStep : Type 0 where
  pub adds : Option Entry
  pub sends : List Frame
  pub outcome : HostOutcome

-- a turn with the frames that tell it
abbrev pub sending : HostTurn → List Frame → HostStep
sending turn frames = record { adds = turn.adds; sends = frames; outcome = turn.outcome }

-- the frame is none that a host takes: nothing is added and nothing sent
abbrev pub strange : HostStep
strange = sending (stays Strange) []

-- the frames of the entry that is added, where one is, with a blank as their mark
abbrev pub first_frames : Config → List Entry → Option Entry → List Frame
first_frames c es adds = flat_map (λ x. frames_of c es x 32) (option_to_list adds)

-- the identifier of a submission that has one
abbrev pub identifier : Submission → Option Imad
identifier (Numbered h body mark failed) = Some h.imad
identifier s = None

-- what is sent of an answer: the frames of the entry that is added; of a verdict that is known the acknowledgement of its
-- entry, marked P; and where the submission is turned away, an acknowledgement of that at the effective moment
abbrev pub answering : Config → List Entry → List ℕ → ℕ → Submission → Answer → List Frame
answering c es e t s (Now v) = first_frames c es (turn_at c es e t s).adds
answering c es e t s (Before place) = option_to_list (ack c es place 80)
answering c es e t s (Turned why) = turned c why (identifier s) t e ∷ []

-- a submission from an endpoint at an effective moment
abbrev pub submit_step : Config → List Entry → List ℕ → ℕ → Submission → HostStep
submit_step c es e t s = sending (turn_at c es e t s) (answering c es e t s (verdict_on c es e t s))

-- an endpoint asks for its outputs from a position on: these are sent again, marked R
abbrev pub retrieve_step : Config → List Entry → List ℕ → Option OutPos → HostStep
retrieve_step c es e None = strange
retrieve_step c es e (Some p) = sending (retrieved_turn c es e p) (map (λ i. output c e i 82) (retrieved c es e p))

-- the cycle goes on to a later date, and each endpoint is told that it ends; no other date changes anything
abbrev pub roll_to : Config → List Entry → ℕ → ℕ → HostStep
roll_to c es t date =
    if nat_lt (cycle c es) date
    then record { adds = Some (Roll t date); sends = frames_of c es (Roll t date) 32; outcome = Rolled date }
    else sending (stays (NotLater (cycle c es))) []

-- the operator alone may ask for that
abbrev pub roll_step : Config → List Entry → List ℕ → ℕ → Option ℕ → HostStep
roll_step c es e t None = strange
roll_step c es e t (Some date) = if bytes_eq e operator then roll_to c es t date else strange

-- the position that a payload of 14 bytes is, and the date that one of eight is
abbrev pub position_in : List ℕ → Option OutPos
position_in payload = if length payload == 14 then read_position payload else None

abbrev pub date_in : List ℕ → Option ℕ
date_in payload = if length payload == 8 then read_date payload else None

-- a frame of each kind at an effective moment
abbrev pub step_at : Config → List Entry → ℕ → FrameKind → List ℕ → List ℕ → HostStep
step_at c es t FrameKind.Submit e payload = submit_step c es e t (submission c.env payload)
step_at c es t FrameKind.Retrieve e payload = retrieve_step c es e (position_in payload)
step_at c es t FrameKind.Roll e payload = roll_step c es e t (date_in payload)
step_at c es t kind e payload = strange

-- the host's step over a frame at a reading of the clock
abbrev pub host_step : Config → List Entry → Frame → ℕ → HostStep
host_step c es f reading = step_at c es (effective es reading) f.kind f.endpoint f.payload
