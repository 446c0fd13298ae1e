use Rattle.std.proofs.Common.{◌≡◌, ◌++◌, map, take}
use Rattle.link_frames.specs.Frames.{frame_bytes}
use Rattle.host_ledger.specs.Accounts.{endpoints_of}
use Rattle.host_node.specs.Resending.{output_to}
use Rattle.host_node.proofs.resending.send_ends.Given as goal

-- the ends to the endpoints of the accounts so far
abbrev pub invariant-loop-number : goal.invariant-loop-number
invariant-loop-number l =
    l.outbox ≡ l.fn.outbox ++ map frame_bytes (map (output_to l.state.config l.state.entries l.place l.mark) (endpoints_of (take l.number l.accounts)))
