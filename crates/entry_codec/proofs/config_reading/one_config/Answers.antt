use Rattle.entry_codec.proofs.Configs.{one_config}
use Rattle.entry_codec.proofs.config_reading.one_config.Goals as goal

pub returns : goal.returns
returns c = one_config
