use Rattle.world_model.proofs.Going.{one_step, some_step}
use Rattle.world_model.proofs.laws.steps_can_go.Goals as goal

pub returns-clause-some : goal.returns-clause-some
returns-clause-some c = some_step

pub returns-clause-one : goal.returns-clause-one
returns-clause-one c = one_step
