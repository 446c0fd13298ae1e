use Rattle.faim_model.proofs.Covering.{covered_fits, covered_short}
use Rattle.faim_model.proofs.Outside.{acks_read, outputs_read}
use Rattle.faim_model.proofs.frame_laws.covered_frames_fit.Goals as goal

pub returns-clause-frame : goal.returns-clause-frame
returns-clause-frame c = covered_fits

pub returns-clause-short : goal.returns-clause-short
returns-clause-short c = covered_short

pub returns-clause-ack : goal.returns-clause-ack
returns-clause-ack c config es f sound lawful in_calendar covered is = acks_read config es sound lawful in_calendar f covered is

pub returns-clause-output : goal.returns-clause-output
returns-clause-output c config es f sound lawful in_calendar covered is = outputs_read config es sound lawful in_calendar f covered is
