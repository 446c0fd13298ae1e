use Rattle.faim_message.proofs.Reasons.{one_reason}
use Rattle.faim_message.proofs.laws.one_refusal.Goals as goal

pub returns : goal.returns
returns c form bytes a b h k = one_reason form bytes a b h k
