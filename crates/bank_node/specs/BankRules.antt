-- A bank's list as its journal keeps it.
use Rattle.std.specs.Prelude.{ℕ, List}
use Rattle.bank_books.specs.declared.entries.BankEntry.{BankEntry}
use Rattle.bank_books.specs.declared.entries.BankOpening.{BankOpening}
use Rattle.bank_books.specs.Openings.{IsBankOpening}
use Rattle.bank_books.specs.State.{BankList}
use Rattle.entry_codec.specs.BankSpelling.{bank_entry_bytes, bank_opening_bytes}
use Rattle.bank_turns.specs.KeptTexts.{BankMayFollow}
use Rattle.journaled_list.specs.Payloads.{Stands}
use Rattle.journaled_list.specs.Rules.{Rules, Listed}

-- it opens with a sound opening, and an entry may come that has a spelling, that the rules allow, and whose text is what it
-- is kept as
abbrev pub bank_rules : Rules BankOpening BankEntry
bank_rules = record {
  IsOpening = IsBankOpening;
  opening_bytes = bank_opening_bytes;
  entry_bytes = bank_entry_bytes;
  MayFollow = BankMayFollow;
}

-- a bank's opening and entries
abbrev pub listed : BankList → Listed BankOpening BankEntry
listed b = record { opening = b.opening; entries = b.entries }

-- the image stands for this opening and these entries, of which the last record has so many
abbrev pub BankStands : List ℕ → BankOpening → List BankEntry → ℕ → Type 0
BankStands image o es r = Stands bank_rules image (record { opening = o; entries = es }) r
