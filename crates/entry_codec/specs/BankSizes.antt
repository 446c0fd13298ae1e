-- How many bytes the spellings of a bank have (docs/FORMATS.md, "Entries").
use Rattle.std.specs.Prelude.{ℕ, ◌+◌, length, Option, Some, None}
use Rattle.faim_base.specs.Limits.{longest_message}
use Rattle.bank_books.specs.declared.entries.BankEntry.{BankEntry}
use Rattle.bank_books.specs.declared.entries.BankEntry.TheVariants.{Drafted, Answered, Received}
use Rattle.entry_codec.specs.Sizes.{verdict_size}

-- every opening has as many
abbrev pub bank_opening_size : ℕ
bank_opening_size = 14

-- the flag, and the date where there is one
abbrev pub next_size : Option ℕ → ℕ
next_size (Some date) = 5
next_size None = 1

-- nine bytes, and the verdict or the text with its length of two bytes; what is next stands before an output's text
abbrev pub bank_entry_size : BankEntry → ℕ
bank_entry_size (Drafted imad text) = 11 + length text
bank_entry_size (Answered imad verdict) = 9 + verdict_size verdict
bank_entry_size (Received at text next) = 11 + next_size next + length text

-- a draft of one byte has the fewest
abbrev pub shortest_bank_entry : ℕ
shortest_bank_entry = 12

-- an output that names a date and has the longest text has the most
abbrev pub longest_bank_entry : ℕ
longest_bank_entry = 16 + longest_message
