use Rattle.std.proofs.Common.{refl}
use Rattle.host_batches.proofs.Joining.{group_of_one, group_with}
use Rattle.host_batches.proofs.laws.groups_go_frame_by_frame.Goals as goal

pub returns-clause-none : goal.returns-clause-none
returns-clause-none c config es reading = refl

pub returns-clause-one : goal.returns-clause-one
returns-clause-one c = group_of_one

pub returns-clause-more : goal.returns-clause-more
returns-clause-more c = group_with
