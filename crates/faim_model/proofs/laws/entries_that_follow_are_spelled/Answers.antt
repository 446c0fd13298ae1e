use Rattle.faim_model.proofs.Spelled.{follows_spelled}
use Rattle.faim_model.proofs.laws.entries_that_follow_are_spelled.Goals as goal

pub returns : goal.returns
returns c = follows_spelled
