use Rattle.std.proofs.Common.{◌≡◌, ◌∙◌, ◌-◌, ℕ, List, rules, sym, ap, length, refl, arith}
use Rattle.std.specs.Prelude.{IsTrue}
use Rattle.faim_base.specs.Ranges.{IsEndpoint}
use Rattle.faim_base.specs.Text.{is_endpoint}
use Rattle.entry_codec.specs.BankRanges.{IsEntryOf}
use Rattle.entry_codec.specs.BankReading.{bank_entry_at}
use Rattle.entry_codec.specs.BankSpelling.{bank_entry_bytes}
use Rattle.entry_codec.proofs.BankEntries.{bank_entry_again, bank_entry_reads}
use Rattle.entry_codec.proofs.Fronts.{shorter, found, only, not_damaged}
use Rattle.entry_codec.proofs.bank_reading.read_bank_entry.Goals as goal

-- the source, as its eight bytes tell
named : (told source : List ℕ) → length told ≡ 8 → told ≡ source → IsTrue (is_endpoint source) → IsEndpoint source
named told source long same is = (ap length (sym same) ∙ long, is)

pub overflow_sub-result : goal.overflow_sub-result
overflow_sub-result c =
    let own = named c.bytes.result c.args.source (search rules) c.bytes.ensures.value c.bytes.ensures.named in
    shorter bank_entry_bytes (IsEntryOf c.args.source) (bank_entry_at c.args.source) (bank_entry_reads c.args.source own) c.args.bytes.now c.in-Ok.entry c.bank_entry.new.self.rest.now (λ i. omega (arith, c.type_inv.bytes i)) c.in-Ok.ensures

pub returns-in-Ok-clause-found : goal.returns-in-Ok-clause-found
returns-in-Ok-clause-found c =
    let own = named c.bytes.result c.args.source (search rules) c.bytes.ensures.value c.bytes.ensures.named in
    found bank_entry_bytes (IsEntryOf c.args.source) (bank_entry_at c.args.source) (bank_entry_reads c.args.source own) c.args.bytes.now c.in-Ok.entry c.bank_entry.new.self.rest.now (λ i. omega (arith, c.type_inv.bytes i)) c.in-Ok.ensures (length c.args.bytes.now - length c.bank_entry.new.self.rest.now) refl

pub returns-in-Ok-clause-only : goal.returns-in-Ok-clause-only
returns-in-Ok-clause-only c =
    let own = named c.bytes.result c.args.source (search rules) c.bytes.ensures.value c.bytes.ensures.named in
    only bank_entry_bytes (IsEntryOf c.args.source) (bank_entry_at c.args.source) (bank_entry_reads c.args.source own) c.args.bytes.now c.in-Ok.entry c.bank_entry.new.self.rest.now (λ i. omega (arith, c.type_inv.bytes i)) c.in-Ok.ensures (length c.args.bytes.now - length c.bank_entry.new.self.rest.now) refl

pub returns-in-Err-clause-only : goal.returns-in-Err-clause-only
returns-in-Err-clause-only c = not_damaged bank_entry_bytes (IsEntryOf c.args.source) (bank_entry_at c.args.source) (bank_entry_again c.args.source) c.in-Err.fault c.args.bytes.now c.in-Err.ensures
