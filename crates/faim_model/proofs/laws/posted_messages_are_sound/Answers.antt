use Rattle.faim_model.proofs.Sound.{posted_sound}
use Rattle.faim_model.proofs.laws.posted_messages_are_sound.Goals as goal

pub returns : goal.returns
returns c = posted_sound
