use Rattle.faim_model.proofs.Outside.{output_is_given}
use Rattle.faim_model.proofs.SamePlace.{outputs_differ_in_marks}
use Rattle.faim_model.proofs.frame_laws.covered_outputs_are_given.Goals as goal

pub returns-clause-given : goal.returns-clause-given
returns-clause-given c config es f m sound lawful in_calendar covered is read =
    output_is_given config es sound lawful in_calendar f m covered is read

pub returns-clause-one : goal.returns-clause-one
returns-clause-one c = outputs_differ_in_marks
