use Rattle.torn_journal.proofs.OneList.{one_list as one}
use Rattle.torn_journal.proofs.laws.one_list.Goals as goal

pub returns : goal.returns
returns c = one
