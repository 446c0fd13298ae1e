use Rattle.link_frames.proofs.Splitting.{fault_splits}
use Rattle.link_frames.proofs.laws.sessions_read_the_frames.Goals as goal

pub returns-clause-fault : goal.returns-clause-fault
returns-clause-fault c = fault_splits
