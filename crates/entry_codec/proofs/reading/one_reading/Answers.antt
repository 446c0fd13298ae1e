use Rattle.entry_codec.proofs.Entries.{one_entry}
use Rattle.entry_codec.proofs.reading.one_reading.Goals as goal

pub returns : goal.returns
returns c = one_entry
