use Rattle.host_index.proofs.Answering.{own_count, other_count}
use Rattle.host_index.proofs.laws.outputs_are_counted_under_their_dates.Goals as goal

pub returns-clause-own : goal.returns-clause-own
returns-clause-own c = own_count

pub returns-clause-others : goal.returns-clause-others
returns-clause-others c = other_count
