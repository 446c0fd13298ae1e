-- How many bytes the spellings of a bank have.
use Rattle.std.proofs.Common.{◌≡◌, ℕ, ◌≤◌, length, length-append, Option, Some, None, refl, arith}
use Rattle.bank_books.specs.Openings.{IsBankOpening}
use Rattle.bank_books.specs.declared.entries.BankEntry.{BankEntry}
use Rattle.bank_books.specs.declared.entries.BankEntry.TheVariants.{Drafted, Answered, Received}
use Rattle.bank_books.specs.declared.entries.BankOpening.{BankOpening}
use Rattle.entry_codec.specs.BankRanges.{IsBankEntry}
use Rattle.entry_codec.specs.BankSizes.{bank_opening_size, next_size, bank_entry_size, shortest_bank_entry, longest_bank_entry}
use Rattle.entry_codec.specs.BankSpelling.{bank_opening_bytes, next_bytes, bank_entry_bytes}
use Rattle.entry_codec.proofs.Lengths.{verdict_size_is, verdict_sizes}

pub opening_size_is : (o : BankOpening) → IsBankOpening o → length (bank_opening_bytes o) ≡ bank_opening_size
opening_size_is o fit = simp length-append (omega (arith, fit.endpoint.0))

next_size_is : (n : Option ℕ) → length (next_bytes n) ≡ next_size n
next_size_is (Some date) = refl
next_size_is None = refl

next_sizes : (n : Option ℕ) → (1 ≤ next_size n) × (next_size n ≤ 5)
next_sizes (Some date) = (omega arith, omega arith)
next_sizes None = (omega arith, omega arith)

pub bank_entry_size_is : (e : BankEntry) → IsBankEntry e → length (bank_entry_bytes e) ≡ bank_entry_size e
bank_entry_size_is (Drafted imad text) fit = omega arith
bank_entry_size_is (Answered imad verdict) fit = omega (arith, verdict_size_is verdict fit.1)
bank_entry_size_is (Received at text next) fit = simp length-append (omega (arith, next_size_is next))

sizes_bound : (e : BankEntry) → IsBankEntry e → (shortest_bank_entry ≤ bank_entry_size e) × (bank_entry_size e ≤ longest_bank_entry)
sizes_bound (Drafted imad text) fit = (omega (arith, fit.1.0), omega (arith, fit.1.1))
sizes_bound (Answered imad verdict) fit = (omega (arith, (verdict_sizes verdict).0), omega (arith, (verdict_sizes verdict).1))
sizes_bound (Received at text next) fit = (omega (arith, (next_sizes next).0, fit.2.0), omega (arith, (next_sizes next).1, fit.2.1))

pub bank_entry_small : (e : BankEntry) → IsBankEntry e → (shortest_bank_entry ≤ length (bank_entry_bytes e)) × (length (bank_entry_bytes e) ≤ longest_bank_entry)
bank_entry_small e fit = (omega (arith, bank_entry_size_is e fit, (sizes_bound e fit).0), omega (arith, bank_entry_size_is e fit, (sizes_bound e fit).1))
