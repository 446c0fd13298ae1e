use Rattle.faim_message.proofs.Submissions.{one_head, one_text}
use Rattle.faim_message.proofs.laws.one_body_has_one_head.Goals as goal

pub returns-clause-head : goal.returns-clause-head
returns-clause-head c a b m w read other same = one_head a b m w read other same

pub returns-clause-text : goal.returns-clause-text
returns-clause-text c a b m w read other same mark = one_text a b m w read other same mark
