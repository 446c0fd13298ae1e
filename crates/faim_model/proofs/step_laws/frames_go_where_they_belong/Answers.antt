use Rattle.faim_model.proofs.Outcomes.{goes_to}
use Rattle.faim_model.proofs.step_laws.frames_go_where_they_belong.Goals as goal

pub returns-clause-ack : goal.returns-clause-ack
returns-clause-ack c config es f reading g there = (goes_to config es f reading g there).0

pub returns-clause-output : goal.returns-clause-output
returns-clause-output c config es f reading g there = (goes_to config es f reading g there).1
