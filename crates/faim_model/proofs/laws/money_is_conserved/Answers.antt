use Rattle.faim_model.proofs.Conserved.{conserved}
use Rattle.faim_model.proofs.laws.money_is_conserved.Goals as goal

pub returns : goal.returns
returns c = conserved
