use Rattle.faim_model.proofs.Follow.{added_follows}
use Rattle.faim_model.proofs.laws.turn_follows.Goals as goal

pub returns : goal.returns
returns c = added_follows
