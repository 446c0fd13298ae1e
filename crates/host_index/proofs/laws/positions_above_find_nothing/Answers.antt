use Rattle.host_index.proofs.Answering.{above_none, none_above}
use Rattle.host_index.proofs.laws.positions_above_find_nothing.Goals as goal

pub returns : goal.returns
returns c outputs e p = (above_none outputs e p, none_above outputs e p)
