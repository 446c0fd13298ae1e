use Rattle.host_index.proofs.Rising.{in_order_on}
use Rattle.host_index.proofs.laws.outputs_stay_in_order.Goals as goal

pub returns : goal.returns
returns c = in_order_on
