use Rattle.torn_journal.proofs.CallOfTheStop.{stopped_at, lost, either}
use Rattle.torn_journal.proofs.laws.stopped_appends.Goals as goal

pub returns-clause-call : goal.returns-clause-call
returns-clause-call c = stopped_at

pub returns-clause-lost : goal.returns-clause-lost
returns-clause-lost c = lost

pub returns-clause-either : goal.returns-clause-either
returns-clause-either c = either
