use Rattle.faim_model.proofs.FirstOutputs.{session_new}
use Rattle.faim_model.proofs.SessionLemmas.{new_acks, resumed_was_sent}
use Rattle.faim_model.proofs.step_laws.sessions_miss_and_repeat_nothing.Goals as goal

pub returns-clause-acks : goal.returns-clause-acks
returns-clause-acks c = new_acks

pub returns-clause-outputs : goal.returns-clause-outputs
returns-clause-outputs c config es arrivals e = session_new config e es arrivals

pub returns-clause-resumed : goal.returns-clause-resumed
returns-clause-resumed c = resumed_was_sent
