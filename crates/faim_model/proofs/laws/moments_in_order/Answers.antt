use Rattle.faim_model.proofs.Accepted.{follows_in_time}
use Rattle.faim_model.proofs.laws.moments_in_order.Goals as goal

pub returns : goal.returns
returns c = follows_in_time
