use Rattle.host_ledger.proofs.Openings.{absent}
use Rattle.host_ledger.proofs.funds.open.Goals as goal

pub add_account-requires : goal.add_account-requires
add_account-requires c =
    absent c.args.accounts.now c.loop-account.account-index c.account-item.result c.loop-account.table.entries
    c.requires c.loop-account-test.true c.account-item.is c.loop-account.invariant
