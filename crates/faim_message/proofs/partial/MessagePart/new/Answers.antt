use Rattle.std.proofs.Common.{[]}
use Rattle.faim_message.specs.Stages.{open_numbers}
use Rattle.faim_message.proofs.PartialLemmas.{nothing_read}
use Rattle.faim_message.proofs.partial.MessagePart.new.Goals as goal

pub returns-clause-nothing : goal.returns-clause-nothing
returns-clause-nothing c = nothing_read c.args.form c.new.result c.start.result c.new.ensures (c.start.ensures (open_numbers c.args.form []))
