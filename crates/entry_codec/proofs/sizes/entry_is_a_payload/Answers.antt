use Rattle.entry_codec.proofs.Lengths.{entry_size_is, entry_small}
use Rattle.entry_codec.proofs.sizes.entry_is_a_payload.Goals as goal

pub returns-clause-size : goal.returns-clause-size
returns-clause-size c = entry_size_is

pub returns-clause-bounds : goal.returns-clause-bounds
returns-clause-bounds c = entry_small
