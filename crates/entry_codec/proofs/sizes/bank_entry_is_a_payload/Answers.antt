use Rattle.entry_codec.proofs.BankLengths.{bank_entry_size_is, bank_entry_small}
use Rattle.entry_codec.proofs.sizes.bank_entry_is_a_payload.Goals as goal

pub returns-clause-size : goal.returns-clause-size
returns-clause-size c = bank_entry_size_is

pub returns-clause-bounds : goal.returns-clause-bounds
returns-clause-bounds c = bank_entry_small
