use Rattle.torn_journal.proofs.OneDamage.{damaged_header, one_damage as one}
use Rattle.torn_journal.proofs.laws.one_damage.Goals as goal

pub returns-clause-header : goal.returns-clause-header
returns-clause-header g c = damaged_header g.V.Visit.follows

pub returns-clause-place : goal.returns-clause-place
returns-clause-place g c = one g.V.Visit.follows
