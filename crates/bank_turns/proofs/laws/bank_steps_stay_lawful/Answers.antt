use Rattle.bank_turns.proofs.Following.{step_follows, step_lawful}
use Rattle.bank_turns.proofs.laws.bank_steps_stay_lawful.Goals as goal

pub returns-clause-follows : goal.returns-clause-follows
returns-clause-follows c = step_follows

pub returns-clause-lawful : goal.returns-clause-lawful
returns-clause-lawful c = step_lawful
