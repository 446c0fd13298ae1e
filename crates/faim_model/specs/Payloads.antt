-- The bytes that a host sends for the entry at a place.
use Rattle.std.specs.Prelude.{ℕ, Bool, true, false, List, [], Option, Some, None, option_map}
use Rattle.link_frames.specs.Frames.{Content as Frame}
use Rattle.host_ledger.specs.declared.config.Config.{Config}
use Rattle.host_ledger.specs.declared.entries.Entry.{Entry}
use Rattle.host_ledger.specs.declared.entries.Entry.TheVariants.{Posted, Roll}
use Rattle.faim_model.specs.Frames.{ack, output}
use Rattle.faim_model.specs.Items.{item_at}

-- an entry that posts a message
abbrev pub posts : Option Entry → Bool
posts (Some (Posted h body resent moment v)) = true
posts (Some (Roll moment date)) = false
posts None = false

-- a frame's payload; where there is no frame, no bytes
abbrev pub payload_of : Option Frame → List ℕ
payload_of None = []
payload_of (Some f) = f.payload

-- the acknowledgement of the message that the entry at a place posts
abbrev pub ack_payload : Config → List Entry → ℕ → ℕ → List ℕ
ack_payload c es place mark = payload_of (ack c es place mark)

-- the output that the entry at a place gives an endpoint
abbrev pub output_payload : Config → List Entry → List ℕ → ℕ → ℕ → List ℕ
output_payload c es e place mark = payload_of (option_map (λ i. output c e i mark) (item_at c es e place))
