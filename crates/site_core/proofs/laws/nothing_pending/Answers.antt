use Rattle.site_core.proofs.Moments.{synced, restarted, still_asked, still_unsynced, still_sent, still_unsent, only_reads}
use Rattle.site_core.proofs.laws.nothing_pending.Goals as goal

pub returns-clause-synced : goal.returns-clause-synced
returns-clause-synced c = synced

pub returns-clause-restarted : goal.returns-clause-restarted
returns-clause-restarted c = restarted

pub returns-clause-asked : goal.returns-clause-asked
returns-clause-asked c = still_asked

pub returns-clause-unsynced : goal.returns-clause-unsynced
returns-clause-unsynced c = still_unsynced

pub returns-clause-sent : goal.returns-clause-sent
returns-clause-sent c = still_sent

pub returns-clause-unsent : goal.returns-clause-unsent
returns-clause-unsent c = still_unsent

pub returns-clause-only : goal.returns-clause-only
returns-clause-only c = only_reads
