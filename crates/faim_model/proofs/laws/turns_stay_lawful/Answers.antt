use Rattle.faim_model.proofs.Follow.{stays_lawful}
use Rattle.faim_model.proofs.laws.turns_stay_lawful.Goals as goal

pub returns : goal.returns
returns c = stays_lawful
