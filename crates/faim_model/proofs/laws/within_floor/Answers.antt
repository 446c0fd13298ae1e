use Rattle.faim_model.proofs.Balances.{leaves_floor}
use Rattle.faim_model.proofs.laws.within_floor.Goals as goal

pub returns : goal.returns
returns c = leaves_floor
