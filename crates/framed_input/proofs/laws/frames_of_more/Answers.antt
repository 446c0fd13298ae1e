use Rattle.std.proofs.Common.{◌++◌, sym}
use Rattle.framed_input.specs.FramesIn.{frames_in, rest_in}
use Rattle.framed_input.proofs.InputFrames.{only, more_splits}
use Rattle.framed_input.proofs.laws.frames_of_more.Goals as goal

pub returns-clause-frames : goal.returns-clause-frames
returns-clause-frames c = λ bytes more small.
    sym (only (bytes ++ more) (frames_in bytes ++ frames_in (rest_in bytes ++ more)) (rest_in (rest_in bytes ++ more)) (more_splits bytes more small)).0

pub returns-clause-rest : goal.returns-clause-rest
returns-clause-rest c = λ bytes more small.
    sym (only (bytes ++ more) (frames_in bytes ++ frames_in (rest_in bytes ++ more)) (rest_in (rest_in bytes ++ more)) (more_splits bytes more small)).1
