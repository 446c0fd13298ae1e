use Rattle.faim_message.proofs.Each.{each_input}
use Rattle.faim_message.proofs.laws.each_input_is_judged.Goals as goal

pub returns : goal.returns
returns c form bytes = each_input form bytes
