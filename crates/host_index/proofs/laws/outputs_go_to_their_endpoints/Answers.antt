use Rattle.host_index.proofs.Answering.{own_output, others_outputs}
use Rattle.host_index.proofs.laws.outputs_go_to_their_endpoints.Goals as goal

pub returns-clause-own : goal.returns-clause-own
returns-clause-own c = own_output

pub returns-clause-others : goal.returns-clause-others
returns-clause-others c = others_outputs
