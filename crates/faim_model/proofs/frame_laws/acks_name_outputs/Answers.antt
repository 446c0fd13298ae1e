use Rattle.faim_model.proofs.SameOutput.{output_named}
use Rattle.faim_model.proofs.frame_laws.acks_name_outputs.Goals as goal

pub returns : goal.returns
returns c = output_named
