use Rattle.host_ledger.proofs.Additions.{one_account_more}
use Rattle.host_ledger.proofs.soundness.one_account_more.Goals as goal

pub returns : goal.returns
returns c = one_account_more
