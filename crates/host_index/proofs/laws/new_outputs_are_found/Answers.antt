use Rattle.host_index.proofs.Rising.{found_again}
use Rattle.host_index.proofs.laws.new_outputs_are_found.Goals as goal

pub returns : goal.returns
returns c = found_again
