use Rattle.faim_model.proofs.Outside.{acks_stamped, outputs_stamped}
use Rattle.faim_model.proofs.frame_laws.covered_frames_are_stamped.Goals as goal

pub returns-clause-ack : goal.returns-clause-ack
returns-clause-ack c config es f m sound lawful in_calendar covered is read =
    acks_stamped config es sound lawful in_calendar f m covered is read

pub returns-clause-output : goal.returns-clause-output
returns-clause-output c config es f m sound lawful in_calendar covered is read =
    outputs_stamped config es sound lawful in_calendar f m covered is read
