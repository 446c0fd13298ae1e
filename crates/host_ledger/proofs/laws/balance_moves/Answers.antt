use Rattle.host_ledger.proofs.Balances.{moves_by_entry}
use Rattle.host_ledger.proofs.laws.balance_moves.Goals as goal

pub returns : goal.returns
returns c = moves_by_entry
