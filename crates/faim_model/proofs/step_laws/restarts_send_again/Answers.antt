use Rattle.std.proofs.Common.{refl}
use Rattle.faim_model.proofs.Outcomes.{sends_own}
use Rattle.faim_model.proofs.SendingLemmas.{resume_marked}
use Rattle.faim_model.proofs.SessionLemmas.{all_again, session_again, session_as_before}
use Rattle.faim_model.proofs.step_laws.restarts_send_again.Goals as goal

pub returns-clause-first : goal.returns-clause-first
returns-clause-first c = sends_own

pub returns-clause-again : goal.returns-clause-again
returns-clause-again c config es x = refl

pub returns-clause-added : goal.returns-clause-added
returns-clause-added c = session_again

pub returns-clause-kept : goal.returns-clause-kept
returns-clause-kept c = session_as_before

pub returns-clause-mark : goal.returns-clause-mark
returns-clause-mark c = resume_marked

pub returns-clause-in_order : goal.returns-clause-in_order
returns-clause-in_order c = all_again
