use Rattle.host_ledger.specs.Soundness.{IsConfig}
use Rattle.world_text.specs.Grammar.{config_of}
use Rattle.world_text.proofs.SoundReads.{sound_where_read}
use Rattle.world_text.proofs.reader.read_config_text.Goals as goal

pub returns-clause-sound : goal.returns-clause-sound
returns-clause-sound c = sound_where_read IsConfig config_of c.configurations_are_sound.ensures c.args.text.now c.read_config.result c.read_config.ensures
