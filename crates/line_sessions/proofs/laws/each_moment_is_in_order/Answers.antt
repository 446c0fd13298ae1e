use Rattle.line_sessions.proofs.Joined.{kept_in_order, sent_in_order}
use Rattle.line_sessions.proofs.laws.each_moment_is_in_order.Goals as goal

pub returns-clause-kept : goal.returns-clause-kept
returns-clause-kept g c = λ kept taken before image found m. kept_in_order g.P.Playing.part kept taken before image found m

pub returns-clause-sent : goal.returns-clause-sent
returns-clause-sent g c = λ kept taken before image found m. sent_in_order g.P.Playing.part kept taken before image found m
