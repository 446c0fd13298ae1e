use Rattle.std.proofs.Common.{◌≡◌, take}
use Rattle.faim_top.specs.Replay.{output_counts}
use Rattle.faim_top.proofs.play.output_counts.Given as goal

abbrev pub invariant-loop-endpoint : goal.invariant-loop-endpoint
invariant-loop-endpoint l = l.counts ≡ output_counts l.state.config l.state.entries (take l.endpoint-index l.endpoints)
