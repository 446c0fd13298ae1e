use Rattle.world_text.proofs.SoundTexts.{script_sound}
use Rattle.world_text.proofs.laws.scripts_are_sound.Goals as goal

pub returns : goal.returns
returns c = script_sound c.one_account_more.ensures
