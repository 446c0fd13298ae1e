use Rattle.entry_codec.proofs.Lengths.{config_size_is, config_small}
use Rattle.entry_codec.proofs.sizes.config_is_a_payload.Goals as goal

pub returns-clause-size : goal.returns-clause-size
returns-clause-size c = config_size_is

pub returns-clause-most : goal.returns-clause-most
returns-clause-most c = config_small
