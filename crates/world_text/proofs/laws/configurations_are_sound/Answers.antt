use Rattle.world_text.proofs.SoundTexts.{config_sound}
use Rattle.world_text.proofs.laws.configurations_are_sound.Goals as goal

pub returns : goal.returns
returns c = config_sound c.one_account_more.ensures
