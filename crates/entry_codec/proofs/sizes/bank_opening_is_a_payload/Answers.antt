use Rattle.entry_codec.proofs.BankLengths.{opening_size_is}
use Rattle.entry_codec.proofs.sizes.bank_opening_is_a_payload.Goals as goal

pub returns : goal.returns
returns c = opening_size_is
