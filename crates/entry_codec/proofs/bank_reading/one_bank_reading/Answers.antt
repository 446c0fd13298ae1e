use Rattle.entry_codec.proofs.BankEntries.{one_bank_entry}
use Rattle.entry_codec.proofs.bank_reading.one_bank_reading.Goals as goal

pub returns : goal.returns
returns c = one_bank_entry
