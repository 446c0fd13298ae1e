use Rattle.std.proofs.Common.{length, ◌∙◌, ap}
use Rattle.host_index.specs.Index.{outputs_to}
use Rattle.host_index.specs.Tables.{outputs_in}
use Rattle.host_index.proofs.Counted.{all_of_them}
use Rattle.host_index.proofs.outputs.count_all.Goals as goal

pub returns : goal.returns
returns c = c.count_before.ensures.count ∙ ap length (all_of_them (outputs_to c.args.dest.now (outputs_in c.args.outputs.now.entries)))
