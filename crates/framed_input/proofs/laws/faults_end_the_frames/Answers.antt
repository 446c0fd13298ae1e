use Rattle.framed_input.proofs.InputFrames.{fault_ends}
use Rattle.framed_input.proofs.laws.faults_end_the_frames.Goals as goal

pub returns : goal.returns
returns c = fault_ends
