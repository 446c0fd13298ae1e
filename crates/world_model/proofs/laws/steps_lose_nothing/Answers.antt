use Rattle.world_model.proofs.Growing.{run_grows, step_grows}
use Rattle.world_model.proofs.WholeRuns.{sent_acks_stand}
use Rattle.world_model.proofs.laws.steps_lose_nothing.Goals as goal

pub returns-clause-step : goal.returns-clause-step
returns-clause-step c = step_grows

pub returns-clause-run : goal.returns-clause-run
returns-clause-run c = run_grows

pub returns-clause-acks : goal.returns-clause-acks
returns-clause-acks c = sent_acks_stand
