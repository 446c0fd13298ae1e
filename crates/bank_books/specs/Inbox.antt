-- The inbox of a bank's list of entries, the newest first, and the position that it wants next.
use Rattle.std.specs.Prelude.{ℕ, ◌+◌, not, Bool, List, [], ◌∷◌, ◌++◌, if◌then◌else◌, Option, Some, None}
use Rattle.faim_base.specs.declared.ids.OutPos.{OutPos}
use Rattle.faim_base.specs.Ids.{is_up_to}
use Rattle.bank_books.specs.declared.entries.BankEntry.{BankEntry}
use Rattle.bank_books.specs.declared.entries.BankEntry.TheVariants.{Drafted, Answered, Received}
use Rattle.bank_books.specs.declared.entries.BankOpening.{BankOpening}
use Rattle.bank_books.specs.declared.outcomes.OutCase.{OutCase}
use Rattle.bank_books.specs.declared.outcomes.OutCase.TheVariants.{Next, Repeated, Gap}

-- an output that was received: its position, its text, and the date that it goes on to where it ends a cycle
pub record InboxItem : Type 0 where
  pub at : OutPos
  pub text : List ℕ
  pub next : Option ℕ

-- the outputs that were received, the oldest first
abbrev pub inbox : List BankEntry → List InboxItem
inbox [] = []
inbox (Drafted imad text ∷ older) = inbox older
inbox (Answered imad verdict ∷ older) = inbox older
inbox (Received at text next ∷ older) = inbox older ++ record { at = at; text = text; next = next } ∷ []

-- the present cycle date: that of the last end of a cycle, or the opening's
abbrev pub bank_cycle : BankOpening → List BankEntry → ℕ
bank_cycle o [] = o.date
bank_cycle o (Drafted imad text ∷ older) = bank_cycle o older
bank_cycle o (Answered imad verdict ∷ older) = bank_cycle o older
bank_cycle o (Received at text (Some date) ∷ older) = date
bank_cycle o (Received at text None ∷ older) = bank_cycle o older

-- the number that is wanted: one more than the last, and 1 at first and after an end of a cycle
abbrev pub wanted_number : List BankEntry → ℕ
wanted_number [] = 1
wanted_number (Drafted imad text ∷ older) = wanted_number older
wanted_number (Answered imad verdict ∷ older) = wanted_number older
wanted_number (Received at text (Some date) ∷ older) = 1
wanted_number (Received at text None ∷ older) = at.seq + 1

-- the position that is wanted
abbrev pub wanted : BankOpening → List BankEntry → OutPos
wanted o es = record { date = bank_cycle o es; seq = wanted_number es }

-- before the other, by date and then number
abbrev pub is_before : OutPos → OutPos → Bool
is_before p q = not (is_up_to q p)

-- what an output at a position is
abbrev pub out_case : BankOpening → List BankEntry → OutPos → OutCase
out_case o es at =
    if is_before at (wanted o es) then Repeated
    else if is_before (wanted o es) at then Gap
    else Next
