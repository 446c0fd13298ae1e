-- What is prepared of a host's step before a device is called.
use Rattle.std.specs.Prelude.{◌≤◌, ℕ, List, length, map, is_some, IsSome}
use Rattle.std.specs.List.{Contains}
use Rattle.link_frames.specs.Frames.{frame_bytes, greatest_payload}
use Rattle.host_ledger.specs.declared.config.Config.{Config}
use Rattle.host_ledger.specs.declared.entries.Entry.{Entry}
use Rattle.faim_model.specs.Items.{position_at}
use Rattle.faim_model.specs.Payloads.{output_payload}
use Rattle.faim_model.specs.Steps.{HostStep}
use Rattle.host_node.specs.declared.preparing.Prepared.{Prepared}

-- the outcome of a step, and whether it adds an entry
abbrev pub told : HostStep → Prepared
told step = record { outcome = step.outcome; added = is_some step.adds }

-- the frames of a step, as bytes
abbrev pub bytes_sent : HostStep → List (List ℕ)
bytes_sent step = map frame_bytes step.sends

-- the entry at each of these places gives the endpoint an output, which fits a frame with R as its mark
pub record AreGiven (c : Config) (es : List Entry) (e : List ℕ) (places : List ℕ) : Type 0 where
  pub given : (place : ℕ) → Contains places place → IsSome (position_at c es e place)
  pub fits : (place : ℕ) → Contains places place → length (output_payload c es e place 82) ≤ greatest_payload
