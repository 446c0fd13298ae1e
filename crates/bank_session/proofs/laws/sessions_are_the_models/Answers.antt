use Rattle.bank_session.proofs.InWords.{frames_of_session, session_after, session_sent}
use Rattle.bank_session.proofs.laws.sessions_are_the_models.Goals as goal

pub returns-clause-kept : goal.returns-clause-kept
returns-clause-kept c = session_after

pub returns-clause-frames : goal.returns-clause-frames
returns-clause-frames c = frames_of_session

pub returns-clause-sent : goal.returns-clause-sent
returns-clause-sent c = session_sent
