use Rattle.torn_journal.proofs.OneDamage.{journal_header, undamaged}
use Rattle.torn_journal.proofs.laws.journals_are_sound.Goals as goal

pub returns-clause-header : goal.returns-clause-header
returns-clause-header g c = journal_header

pub returns-clause-undamaged : goal.returns-clause-undamaged
returns-clause-undamaged g c = undamaged g.V.Visit.follows
