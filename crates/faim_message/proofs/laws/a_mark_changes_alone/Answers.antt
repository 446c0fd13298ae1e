use Rattle.faim_message.proofs.Submissions.{new_mark, same_head, same_body}
use Rattle.faim_message.proofs.laws.a_mark_changes_alone.Goals as goal

pub returns-clause-mark : goal.returns-clause-mark
returns-clause-mark c m mark h = new_mark m mark h

pub returns-clause-head : goal.returns-clause-head
returns-clause-head c m mark h = same_head m mark h

pub returns-clause-body : goal.returns-clause-body
returns-clause-body c m mark h is = same_body m mark h is
