-- What a bank's books are: an opening, and entries, the newest first.
use Rattle.std.specs.Prelude.{List}
use Rattle.bank_books.specs.declared.entries.BankEntry.{BankEntry}
use Rattle.bank_books.specs.declared.entries.BankOpening.{BankOpening}

pub record BankList : Type 0 where
  pub opening : BankOpening
  pub entries : List BankEntry
