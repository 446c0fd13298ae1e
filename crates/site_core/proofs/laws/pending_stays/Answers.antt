use Rattle.site_core.proofs.Freedoms.{stays_asked, stays_wrote, stays_unwritten, stays_unsynced, stays_sent, stays_unsent}
use Rattle.site_core.proofs.laws.pending_stays.Goals as goal

pub returns-clause-asked : goal.returns-clause-asked
returns-clause-asked c = stays_asked

pub returns-clause-wrote : goal.returns-clause-wrote
returns-clause-wrote c = stays_wrote

pub returns-clause-unwritten : goal.returns-clause-unwritten
returns-clause-unwritten c = stays_unwritten

pub returns-clause-unsynced : goal.returns-clause-unsynced
returns-clause-unsynced c = stays_unsynced

pub returns-clause-sent : goal.returns-clause-sent
returns-clause-sent c = stays_sent

pub returns-clause-unsent : goal.returns-clause-unsent
returns-clause-unsent c = stays_unsent
