use Rattle.bank_turns.proofs.FaultLemmas.{draft_found, draft_none, draft_why}
use Rattle.bank_turns.proofs.laws.draft_faults_are_refusals.Goals as goal

pub returns-clause-why : goal.returns-clause-why
returns-clause-why c = draft_why

pub returns-clause-found : goal.returns-clause-found
returns-clause-found c = draft_found

pub returns-clause-none : goal.returns-clause-none
returns-clause-none c = draft_none
