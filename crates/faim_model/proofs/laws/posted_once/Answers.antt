use Rattle.faim_model.proofs.Once.{at_most_once}
use Rattle.faim_model.proofs.laws.posted_once.Goals as goal

pub returns : goal.returns
returns c = at_most_once
