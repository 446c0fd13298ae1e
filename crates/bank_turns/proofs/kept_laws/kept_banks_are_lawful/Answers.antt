use Rattle.bank_turns.proofs.KeptSteps.{cycle_is_day, drafts_keep, drafts_short, kept_lawful}
use Rattle.bank_turns.proofs.kept_laws.kept_banks_are_lawful.Goals as goal

pub returns-clause-lawful : goal.returns-clause-lawful
returns-clause-lawful c = kept_lawful

pub returns-clause-day : goal.returns-clause-day
returns-clause-day c o es opening kept = cycle_is_day o es opening.date (kept_lawful o es kept)

pub returns-clause-short : goal.returns-clause-short
returns-clause-short c = drafts_short

pub returns-clause-drafted : goal.returns-clause-drafted
returns-clause-drafted c = drafts_keep
