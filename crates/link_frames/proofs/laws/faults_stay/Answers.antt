use Rattle.std.proofs.Common.{◌++◌}
use Rattle.link_frames.proofs.Fronts.{fault_stays, fault_not_whole}
use Rattle.link_frames.proofs.laws.faults_stay.Goals as goal

pub returns-clause-fault : goal.returns-clause-fault
returns-clause-fault c = fault_stays

pub returns-clause-frame : goal.returns-clause-frame
returns-clause-frame c = λ bytes more e is. fault_not_whole (bytes ++ more) e (fault_stays bytes more e is)
