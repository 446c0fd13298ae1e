use Rattle.faim_message.proofs.Judge.{never_refused}
use Rattle.faim_message.proofs.laws.spelled_is_not_refused.Goals as goal

pub returns : goal.returns
returns c m bytes e h r = never_refused m bytes e h r
