use Rattle.faim_message.proofs.Lengths.{message_short}
use Rattle.faim_message.proofs.laws.spellings_are_short.Goals as goal

pub returns : goal.returns
returns c m bytes h = message_short m bytes h
