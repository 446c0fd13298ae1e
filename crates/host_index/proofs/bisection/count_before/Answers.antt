use Rattle.std.proofs.Common.{arith}
use Rattle.host_index.proofs.Counted.{count_fits}
use Rattle.host_index.proofs.bisection.count_before.Goals as goal

pub loop-low-init : goal.loop-low-init
loop-low-init c =
    let fits = count_fits c.args.outputs.now.entries c.args.limit.now c.args.dest.now in
    record {
      reached = omega arith;
      missed = omega (arith, fits, c.len-high.ensures.len);
      small = omega (arith, c.len-high.ensures.small);
    }
