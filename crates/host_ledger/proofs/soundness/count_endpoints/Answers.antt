use Rattle.std.proofs.Common.{take, arith}
use Rattle.host_ledger.specs.Accounts.{has_endpoint}
use Rattle.host_ledger.proofs.EndpointLists.{one_counted, one_at_most}
use Rattle.host_ledger.proofs.soundness.count_endpoints.Goals as goal

pub loop-place-preserved : goal.loop-place-preserved
loop-place-preserved c =
    let before = take c.loop-place.place c.args.accounts.now in
    let more = one_counted c.args.accounts.now c.loop-place.place c.index-accounts-place.result c.loop-place-test.true c.index-accounts-place.is in
    record {
      counted = omega (arith, more);
      below = omega (arith, one_at_most (has_endpoint before c.index-accounts-place.result.endpoint));
    }
