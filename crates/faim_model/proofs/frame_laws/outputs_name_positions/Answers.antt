use Rattle.faim_model.proofs.Positions.{names_position}
use Rattle.faim_model.proofs.frame_laws.outputs_name_positions.Goals as goal

pub returns : goal.returns
returns c = names_position
