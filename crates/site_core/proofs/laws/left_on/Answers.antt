use Rattle.std.proofs.Common.{inr}
use Rattle.site_core.proofs.Moments.{left_split}
use Rattle.site_core.proofs.laws.left_on.Goals as goal

pub returns-clause-split : goal.returns-clause-split
returns-clause-split c = left_split

pub returns-clause-stays : goal.returns-clause-stays
returns-clause-stays c = λ act log t image frames le left. inr (le, inr left)
