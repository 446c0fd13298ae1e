-- Which entries of a bank have a spelling (docs/FORMATS.md, "Entries").
use Rattle.std.specs.Prelude.{◌≡◌, ℕ, List, IfSome}
use Rattle.faim_base.specs.Numbers.{IsDay}
use Rattle.faim_base.specs.Ranges.{IsImad, IsPosition}
use Rattle.bank_books.specs.declared.entries.BankEntry.{BankEntry}
use Rattle.bank_books.specs.declared.entries.BankEntry.TheVariants.{Drafted, Answered, Received}
use Rattle.host_ledger.specs.Ranges.{IsVerdict, IsBody}

-- what an entry of a bank may hold: values of their types, a text that isn't empty and isn't longer than a message, a
-- refusal that is kept
abbrev pub IsBankEntry : BankEntry → Type 0
IsBankEntry (Drafted imad text) = IsImad imad × IsBody text
IsBankEntry (Answered imad verdict) = IsImad imad × IsVerdict verdict
IsBankEntry (Received at text next) = IsPosition at × IfSome next IsDay × IsBody text

-- its IMAD, where it has one, is of this source
abbrev pub HasSource : List ℕ → BankEntry → Type 0
HasSource source (Drafted imad text) = imad.source ≡ source
HasSource source (Answered imad verdict) = imad.source ≡ source
HasSource source (Received at text next) = Unit {0}

-- an entry of the bank at this endpoint that has a spelling
abbrev pub IsEntryOf : List ℕ → BankEntry → Type 0
IsEntryOf source e = IsBankEntry e × HasSource source e
