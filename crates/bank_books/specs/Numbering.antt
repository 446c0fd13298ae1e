-- The number that a bank's next draft gets.
use Rattle.std.specs.Prelude.{ℕ, ◌+◌, ◌==◌, List, length, if◌then◌else◌, Result, Ok, Err}
use Rattle.faim_base.specs.Numbers.{greatest_seq}
use Rattle.faim_base.specs.declared.ids.Imad.{Imad}
use Rattle.bank_books.specs.declared.entries.BankEntry.{BankEntry}
use Rattle.bank_books.specs.declared.entries.BankOpening.{BankOpening}
use Rattle.bank_books.specs.declared.outcomes.SeqFull.{SeqFull}
use Rattle.bank_books.specs.Drafts.{drafts_of}
use Rattle.bank_books.specs.Inbox.{bank_cycle}

-- how many drafts the present cycle has
abbrev pub drafts_in_cycle : BankOpening → List BankEntry → ℕ
drafts_in_cycle o es = length (drafts_of (bank_cycle o es) es)

-- no number is left
abbrev pub seq_full : SeqFull
seq_full = record {}

-- the bank's own endpoint, the present cycle date, and one more than its drafts, up to 999,999
abbrev pub next_imad : BankOpening → List BankEntry → Result Imad SeqFull
next_imad o es =
    if drafts_in_cycle o es == greatest_seq then Err seq_full
    else Ok (record { date = bank_cycle o es; source = o.endpoint; seq = drafts_in_cycle o es + 1 })
