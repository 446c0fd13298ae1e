use Rattle.host_node.proofs.StepSides.{cut_back}
use Rattle.host_node.proofs.preparing.add.Goals as goal

pub returns-clause-kept : goal.returns-clause-kept
returns-clause-kept c = cut_back c.args.entry c.args.state.now c.push.new.self c.cut.new.self c.len-place.result c.len-place.ensures c.in-Ok.ensures.ok c.cut.ensures
