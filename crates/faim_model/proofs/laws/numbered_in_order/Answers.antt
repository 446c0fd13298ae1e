use Rattle.faim_model.proofs.InOrder.{in_order}
use Rattle.faim_model.proofs.laws.numbered_in_order.Goals as goal

pub returns : goal.returns
returns c = in_order
