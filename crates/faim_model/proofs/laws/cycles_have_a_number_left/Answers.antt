use Rattle.faim_model.proofs.Positions.{few_sent}
use Rattle.faim_model.proofs.laws.cycles_have_a_number_left.Goals as goal

pub returns : goal.returns
returns c = few_sent
