use Rattle.link_frames.proofs.Splitting.{goes_on}
use Rattle.link_frames.proofs.laws.splittings_go_on.Goals as goal

pub returns : goal.returns
returns c = goes_on
