use Rattle.std.proofs.Common.{length}
use Rattle.host_index.proofs.tests.+walk.Given as goal

abbrev pub decreases-walk : goal.decreases-walk
decreases-walk l = length l.steps.now
