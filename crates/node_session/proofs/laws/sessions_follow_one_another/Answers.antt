use Rattle.node_session.proofs.NextSessions.{all_done, done_on, restarts_at, rests_after, rests_at, rests_made, served_next, some_done, stands_now}
use Rattle.node_session.proofs.laws.sessions_follow_one_another.Goals as goal

pub returns-clause-rests : goal.returns-clause-rests
returns-clause-rests g c = rests_at g.S.Serving.kind

pub returns-clause-done : goal.returns-clause-done
returns-clause-done g c = some_done g.S.Serving.kind

pub returns-clause-all_done : goal.returns-clause-all_done
returns-clause-all_done g c = all_done g.S.Serving.kind

pub returns-clause-next : goal.returns-clause-next
returns-clause-next g c = served_next g.S.Serving.kind

pub returns-clause-both : goal.returns-clause-both
returns-clause-both g c = done_on g.S.Serving.kind

pub returns-clause-made : goal.returns-clause-made
returns-clause-made g c = rests_made g.S.Serving.kind

pub returns-clause-present : goal.returns-clause-present
returns-clause-present g c = stands_now g.S.Serving.kind

pub returns-clause-stopped : goal.returns-clause-stopped
returns-clause-stopped g c = restarts_at g.S.Serving.kind

pub returns-clause-restarted : goal.returns-clause-restarted
returns-clause-restarted g c = rests_after g.S.Serving.kind
