use Rattle.faim_model.proofs.Floors.{floors_kept}
use Rattle.faim_model.proofs.laws.floors_are_kept.Goals as goal

pub returns : goal.returns
returns c = floors_kept
