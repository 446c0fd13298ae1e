use Rattle.std.proofs.Common.{◌≡◌, ◌-◌, ◌++◌, map, length, drop}
use Rattle.link_frames.specs.Frames.{frame_bytes}
use Rattle.faim_model.specs.Sending.{resume_frames}
use Rattle.host_node.proofs.resending.send_newest.Given as goal

-- the frames of the first of them
abbrev pub invariant-loop-number : goal.invariant-loop-number
invariant-loop-number l = record {
  sent : l.outbox ≡ l.fn.outbox ++ map frame_bytes (resume_frames l.state.config (drop (l.last - l.number) l.state.entries) l.number);
  begin : l.first ≡ length l.state.entries - l.last;
}
