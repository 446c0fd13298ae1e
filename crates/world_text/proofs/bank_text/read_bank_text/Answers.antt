use Rattle.bank_books.specs.Openings.{IsBankOpening}
use Rattle.world_text.specs.BankText.{bank_of}
use Rattle.world_text.proofs.SoundReads.{sound_where_read}
use Rattle.world_text.proofs.bank_text.read_bank_text.Goals as goal

pub returns-clause-sound : goal.returns-clause-sound
returns-clause-sound c = sound_where_read IsBankOpening bank_of c.bank_texts_are_sound.ensures c.args.text.now c.read_bank.result c.read_bank.ensures
