use Rattle.world_model.proofs.Keeping.{step_safe}
use Rattle.world_model.proofs.WholeRuns.{run_safe}
use Rattle.world_model.proofs.laws.steps_keep_worlds_safe.Goals as goal

pub returns-clause-step : goal.returns-clause-step
returns-clause-step c = step_safe

pub returns-clause-run : goal.returns-clause-run
returns-clause-run c = run_safe
