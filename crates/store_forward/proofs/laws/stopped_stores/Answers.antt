use Rattle.store_forward.proofs.StopTable.{store_counted, store_beyond, store_stopped}
use Rattle.store_forward.proofs.laws.stopped_stores.Goals as goal

pub returns-clause-counted : goal.returns-clause-counted
returns-clause-counted c = store_counted

pub returns-clause-beyond : goal.returns-clause-beyond
returns-clause-beyond c = store_beyond

pub returns-clause-table : goal.returns-clause-table
returns-clause-table c = store_stopped
