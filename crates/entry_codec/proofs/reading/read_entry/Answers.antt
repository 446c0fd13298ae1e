use Rattle.std.proofs.Common.{◌-◌, length, refl, arith}
use Rattle.host_ledger.specs.Ranges.{IsEntry}
use Rattle.entry_codec.specs.Spelling.{entry_bytes}
use Rattle.entry_codec.specs.Reading.{entry_at}
use Rattle.entry_codec.proofs.Entries.{entry_again, entry_reads}
use Rattle.entry_codec.proofs.Fronts.{shorter, found, only, not_damaged}
use Rattle.entry_codec.proofs.reading.read_entry.Goals as goal

pub overflow_sub-result : goal.overflow_sub-result
overflow_sub-result c = shorter entry_bytes IsEntry entry_at entry_reads c.args.bytes.now c.in-Ok.entry c.entry.new.self.rest.now (λ i. omega (arith, c.type_inv.bytes i)) c.in-Ok.ensures

pub returns-in-Ok-clause-found : goal.returns-in-Ok-clause-found
returns-in-Ok-clause-found c = found entry_bytes IsEntry entry_at entry_reads c.args.bytes.now c.in-Ok.entry c.entry.new.self.rest.now (λ i. omega (arith, c.type_inv.bytes i)) c.in-Ok.ensures (length c.args.bytes.now - length c.entry.new.self.rest.now) refl

pub returns-in-Ok-clause-only : goal.returns-in-Ok-clause-only
returns-in-Ok-clause-only c = only entry_bytes IsEntry entry_at entry_reads c.args.bytes.now c.in-Ok.entry c.entry.new.self.rest.now (λ i. omega (arith, c.type_inv.bytes i)) c.in-Ok.ensures (length c.args.bytes.now - length c.entry.new.self.rest.now) refl

pub returns-in-Err-clause-only : goal.returns-in-Err-clause-only
returns-in-Err-clause-only c = not_damaged entry_bytes IsEntry entry_at entry_again c.in-Err.fault c.args.bytes.now c.in-Err.ensures
