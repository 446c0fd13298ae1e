use Rattle.host_index.proofs.TakenBack.{posting_last, posting_back, roll_last, roll_back}
use Rattle.host_index.proofs.laws.additions_are_taken_back.Goals as goal

pub returns-clause-posting_last : goal.returns-clause-posting_last
returns-clause-posting_last c = posting_last

pub returns-clause-posting : goal.returns-clause-posting
returns-clause-posting c = posting_back

pub returns-clause-roll_last : goal.returns-clause-roll_last
returns-clause-roll_last c = roll_last

pub returns-clause-roll : goal.returns-clause-roll
returns-clause-roll c = roll_back
