use Rattle.faim_model.proofs.SessionLemmas.{few_recent, goes_on, session_covered, session_in_calendar, session_lawful}
use Rattle.faim_model.proofs.step_laws.sessions_stay_sound.Goals as goal

pub returns-clause-opening : goal.returns-clause-opening
returns-clause-opening c = goes_on

pub returns-clause-lawful : goal.returns-clause-lawful
returns-clause-lawful c = session_lawful

pub returns-clause-in_calendar : goal.returns-clause-in_calendar
returns-clause-in_calendar c = session_in_calendar

pub returns-clause-recent : goal.returns-clause-recent
returns-clause-recent c = few_recent

pub returns-clause-covered : goal.returns-clause-covered
returns-clause-covered c = session_covered
