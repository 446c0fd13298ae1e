use Rattle.faim_model.proofs.Outside.{acks_marked, either_kind, outputs_marked}
use Rattle.faim_model.proofs.frame_laws.covered_frames_are_marked.Goals as goal

pub returns-clause-kind : goal.returns-clause-kind
returns-clause-kind c = either_kind

pub returns-clause-ack : goal.returns-clause-ack
returns-clause-ack c = acks_marked

pub returns-clause-output : goal.returns-clause-output
returns-clause-output c = outputs_marked
