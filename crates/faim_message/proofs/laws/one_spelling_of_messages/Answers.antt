use Rattle.std.proofs.Common.{sym, ◌∙◌}
use Rattle.faim_message.proofs.Judge.{one_message}
use Rattle.faim_message.proofs.laws.one_spelling_of_messages.Goals as goal

pub returns-clause-message : goal.returns-clause-message
returns-clause-message c m w bytes same h k = one_message m w bytes same h k

pub returns-clause-bytes : goal.returns-clause-bytes
returns-clause-bytes c m a b h k = h.spelled ∙ sym k.spelled
