use Rattle.link_frames.proofs.Spelled.{frame_whole, whole_front}
use Rattle.link_frames.proofs.laws.whole_fronts_are_frames.Goals as goal

pub returns-clause-frame : goal.returns-clause-frame
returns-clause-frame c = λ f more is. frame_whole f is more

pub returns-clause-whole : goal.returns-clause-whole
returns-clause-whole c = whole_front
