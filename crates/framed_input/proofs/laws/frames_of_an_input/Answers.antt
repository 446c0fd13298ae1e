use Rattle.framed_input.proofs.InputFrames.{only, splits}
use Rattle.framed_input.proofs.laws.frames_of_an_input.Goals as goal

pub returns-clause-only : goal.returns-clause-only
returns-clause-only c = only

pub returns-clause-splits : goal.returns-clause-splits
returns-clause-splits c = splits
