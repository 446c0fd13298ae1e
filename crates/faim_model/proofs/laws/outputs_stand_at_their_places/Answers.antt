use Rattle.faim_model.proofs.Standing.{stand_at_places}
use Rattle.faim_model.proofs.laws.outputs_stand_at_their_places.Goals as goal

pub returns : goal.returns
returns c = stand_at_places
