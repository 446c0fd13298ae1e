use Rattle.std.proofs.Common.{◌≡◌, ◌++◌, take}
use Rattle.world_text.specs.Report.{count_lines}
use Rattle.world_text.proofs.printing.write_counts.Given as goal

abbrev pub invariant-loop-endpoint : goal.invariant-loop-endpoint
invariant-loop-endpoint l = l.out.items ≡ l.fn.out.items ++ count_lines (take l.endpoint-index l.counts)
