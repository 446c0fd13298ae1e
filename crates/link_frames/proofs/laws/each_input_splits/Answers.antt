use Rattle.link_frames.proofs.Splitting.{splits_any}
use Rattle.link_frames.proofs.laws.each_input_splits.Goals as goal

pub returns : goal.returns
returns c = λ bytes small. splits_any bytes small
