use Rattle.torn_journal.proofs.SoundOrDamaged.{sound_or_damaged}
use Rattle.torn_journal.proofs.laws.other_images_are_damaged.Goals as goal

pub returns : goal.returns
returns g c = sound_or_damaged g.V.Visit.follows
