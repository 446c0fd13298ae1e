use Rattle.faim_message.proofs.MarkBytes.{mark_within, mark_there, mark_alone, mark_spells}
use Rattle.faim_message.proofs.laws.a_mark_is_one_byte.Goals as goal

pub returns-clause-within : goal.returns-clause-within
returns-clause-within c m h = mark_within m h

pub returns-clause-mark : goal.returns-clause-mark
returns-clause-mark c m h = mark_there m h

pub returns-clause-alone : goal.returns-clause-alone
returns-clause-alone c m mark h = mark_alone m mark h

pub returns-clause-spells : goal.returns-clause-spells
returns-clause-spells c m text mark h t = mark_spells m text mark h t
