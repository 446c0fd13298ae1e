use Rattle.faim_model.proofs.HandedOn.{handed_on}
use Rattle.faim_model.proofs.frame_laws.outputs_hand_on_texts.Goals as goal

pub returns : goal.returns
returns c = handed_on
