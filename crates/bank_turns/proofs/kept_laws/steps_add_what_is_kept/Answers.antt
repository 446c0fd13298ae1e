use Rattle.bank_turns.proofs.KeptSteps.{step_kept, step_may_follow}
use Rattle.bank_turns.proofs.kept_laws.steps_add_what_is_kept.Goals as goal

pub returns-clause-follows : goal.returns-clause-follows
returns-clause-follows c = step_may_follow

pub returns-clause-kept : goal.returns-clause-kept
returns-clause-kept c = step_kept
