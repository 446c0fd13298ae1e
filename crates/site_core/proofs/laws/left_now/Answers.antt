use Rattle.std.proofs.Common.{length, arith}
use Rattle.site_core.proofs.Moments.{counts_now, only_now}
use Rattle.site_core.proofs.laws.left_now.Goals as goal

pub returns-clause-counts : goal.returns-clause-counts
returns-clause-counts c = counts_now

pub returns-clause-only : goal.returns-clause-only
returns-clause-only c = λ log image frames left. only_now log (length log) image frames (omega arith) left
