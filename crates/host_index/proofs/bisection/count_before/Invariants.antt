use Rattle.std.proofs.Common.{◌≤◌, ◌<◌, ◌^◌, ◌-◌}
use Rattle.host_index.specs.Limits.{count_before}
use Rattle.host_index.specs.Tables.{outputs_in}
use Rattle.host_index.proofs.bisection.count_before.Given as goal

abbrev pub invariant-loop-low : goal.invariant-loop-low
invariant-loop-low l = record {
  reached : l.low ≤ count_before l.limit l.dest (outputs_in l.outputs.entries);
  missed : count_before l.limit l.dest (outputs_in l.outputs.entries) ≤ l.high;
  small : l.high < 2 ^ 63;
}

abbrev pub decreases-loop-low : goal.decreases-loop-low
decreases-loop-low l = l.high - l.low
