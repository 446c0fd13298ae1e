use Rattle.site_core.proofs.Runs.{armed_for}
use Rattle.site_core.proofs.laws.stop_reached.Goals as goal

pub returns : goal.returns
returns c = λ a b ran rose. armed_for ran.acts a b ran.counted ran.unreached ran.ended.1 rose
