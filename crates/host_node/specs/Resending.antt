-- The frames of the entry at a place.
use Rattle.std.specs.Prelude.{◌≤◌, ℕ, ◌==◌, List, [], ◌∷◌, length, if◌then◌else◌, IsSome}
use Rattle.link_frames.specs.declared.frame.FrameKind.TheVariants.{Ack, Output}
use Rattle.link_frames.specs.Frames.{Content as Frame, greatest_payload}
use Rattle.host_ledger.specs.declared.config.Config.{Config}
use Rattle.host_ledger.specs.declared.entries.Entry.{Entry}
use Rattle.faim_model.specs.Items.{position_at}
use Rattle.faim_model.specs.Payloads.{ack_payload, output_payload}
use Rattle.faim_model.specs.Sending.{frames_of}

-- the frames of the entry at a place, with a mark; none where no entry stands there
abbrev pub frames_at : Config → List Entry → ℕ → ℕ → List Frame
frames_at c [] place mark = []
frames_at c (x ∷ older) place mark = if length older == place then frames_of c older x mark else frames_at c older place mark

-- the acknowledgement of the entry at a place, to an endpoint
abbrev pub ack_to : Config → List Entry → ℕ → ℕ → List ℕ → Frame
ack_to c es place mark e = record { kind = Ack; endpoint = e; payload = ack_payload c es place mark }

-- the output that the entry at a place gives an endpoint
abbrev pub output_to : Config → List Entry → ℕ → ℕ → List ℕ → Frame
output_to c es place mark e = record { kind = Output; endpoint = e; payload = output_payload c es e place mark }

-- each output that the entry at a place gives fits a frame
abbrev pub OutputsFit : Config → List Entry → ℕ → ℕ → Type 0
OutputsFit c es place mark = (e : List ℕ) → IsSome (position_at c es e place) → length (output_payload c es e place mark) ≤ greatest_payload
