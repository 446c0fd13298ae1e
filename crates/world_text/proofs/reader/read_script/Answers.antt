use Rattle.host_ledger.specs.Soundness.{IsConfig}
use Rattle.world_text.specs.declared.script.Script.{Script}
use Rattle.world_text.specs.Grammar.{script_of}
use Rattle.world_text.proofs.SoundReads.{sound_where_read}
use Rattle.world_text.proofs.reader.read_script.Goals as goal

pub returns-clause-sound : goal.returns-clause-sound
returns-clause-sound c = sound_where_read (λ (s : Script). IsConfig s.config) script_of c.scripts_are_sound.ensures c.args.text.now c.read_text.result c.read_text.ensures
