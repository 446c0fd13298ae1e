use Rattle.std.proofs.Common.{◌≡◌, ◌++◌, map, take}
use Rattle.link_frames.specs.Frames.{frame_bytes}
use Rattle.host_node.specs.Resending.{output_to}
use Rattle.host_node.proofs.preparing.send_places.Given as goal

-- the outputs at the places so far
abbrev pub invariant-loop-number : goal.invariant-loop-number
invariant-loop-number l =
    l.outbox ≡ l.fn.outbox ++ map frame_bytes (map (λ place. output_to l.state.config l.state.entries place 82 l.line) (take l.number l.places))
