use Rattle.world_model.proofs.Keeping.{started_safe}
use Rattle.world_model.proofs.laws.started_worlds_are_safe.Goals as goal

pub returns : goal.returns
returns c = started_safe
