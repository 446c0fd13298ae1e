use Rattle.faim_model.proofs.Stepping.{step_follows, step_in_calendar, step_lawful, step_moment}
use Rattle.faim_model.proofs.step_laws.steps_stay_lawful.Goals as goal

pub returns-clause-follows : goal.returns-clause-follows
returns-clause-follows c = step_follows

pub returns-clause-moment : goal.returns-clause-moment
returns-clause-moment c = step_moment

pub returns-clause-lawful : goal.returns-clause-lawful
returns-clause-lawful c = step_lawful

pub returns-clause-in_calendar : goal.returns-clause-in_calendar
returns-clause-in_calendar c = step_in_calendar
