use Rattle.line_sessions.proofs.Joined.{plays_on, plays_out_on}
use Rattle.line_sessions.proofs.laws.sessions_join.Goals as goal

pub returns-clause-part : goal.returns-clause-part
returns-clause-part g c = λ kept first more a b d p q. plays_on g.P.Playing.part kept first more a b d p q

pub returns-clause-whole : goal.returns-clause-whole
returns-clause-whole g c = λ kept first more a b d p q. plays_out_on g.P.Playing.part kept first more a b d p q
