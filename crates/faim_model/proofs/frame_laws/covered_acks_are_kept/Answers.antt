use Rattle.faim_model.proofs.Outside.{acks_differ_in_marks, told_is_kept, untold_is_turned}
use Rattle.faim_model.proofs.frame_laws.covered_acks_are_kept.Goals as goal

pub returns-clause-kept : goal.returns-clause-kept
returns-clause-kept c config es f m v sound lawful in_calendar covered is read tells =
    told_is_kept config es sound lawful in_calendar f m v covered is read tells

pub returns-clause-turned : goal.returns-clause-turned
returns-clause-turned c config es f m sound lawful in_calendar covered is read tells =
    untold_is_turned config es sound lawful in_calendar f m covered is read tells

pub returns-clause-one : goal.returns-clause-one
returns-clause-one c = acks_differ_in_marks
