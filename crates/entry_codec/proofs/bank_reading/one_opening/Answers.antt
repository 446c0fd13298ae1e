use Rattle.entry_codec.proofs.BankOpenings.{one_opening}
use Rattle.entry_codec.proofs.bank_reading.one_opening.Goals as goal

pub returns : goal.returns
returns c = one_opening
