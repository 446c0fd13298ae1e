use Rattle.framed_input.proofs.InputFrames.{hands_out}
use Rattle.framed_input.proofs.laws.handing_out.Goals as goal

pub returns : goal.returns
returns c = hands_out
