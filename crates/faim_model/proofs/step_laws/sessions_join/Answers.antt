use Rattle.faim_model.proofs.SessionLemmas.{entries_join, recent_join, session_join}
use Rattle.faim_model.proofs.step_laws.sessions_join.Goals as goal

pub returns-clause-entries : goal.returns-clause-entries
returns-clause-entries c = entries_join

pub returns-clause-frames : goal.returns-clause-frames
returns-clause-frames c = session_join

pub returns-clause-recent : goal.returns-clause-recent
returns-clause-recent c = recent_join
