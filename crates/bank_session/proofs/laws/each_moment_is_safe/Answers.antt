use Rattle.bank_session.proofs.SafeMoments.{safe_moment, safe_session}
use Rattle.bank_session.proofs.laws.each_moment_is_safe.Goals as goal

pub returns-clause-sessions : goal.returns-clause-sessions
returns-clause-sessions c = safe_moment

pub returns-clause-session : goal.returns-clause-session
returns-clause-session c = safe_session
