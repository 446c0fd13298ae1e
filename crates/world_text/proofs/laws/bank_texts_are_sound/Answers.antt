use Rattle.world_text.proofs.SoundBankTexts.{bank_sound}
use Rattle.world_text.proofs.laws.bank_texts_are_sound.Goals as goal

pub returns : goal.returns
returns c = bank_sound
