-- Outputs that stand in a row, and the position after the last of them.
use Rattle.std.proofs.Common.{◌≡◌, refl, sym, ◌∙◌, ℕ, List, [], ◌∷◌, ◌++◌}
use Rattle.faim_base.specs.declared.ids.OutPos.{OutPos}
use Rattle.bank_books.specs.declared.entries.BankEntry.{BankEntry}
use Rattle.bank_books.specs.declared.entries.BankEntry.TheVariants.{Drafted, Answered, Received}
use Rattle.bank_books.specs.declared.entries.BankOpening.{BankOpening}
use Rattle.bank_books.specs.Inbox.{InboxItem, inbox, wanted}
use Rattle.bank_books.specs.Lawful.{LawfulBank, StandInARow, right_after}
use Rattle.bank_books.proofs.InARow.{wanted_after}

-- the position right after the last of some outputs
abbrev pub after_all : OutPos → List InboxItem → OutPos
after_all first [] = first
after_all first (i ∷ items) = after_all (right_after i.at i.next) items

pub row_more : (first : OutPos) (items : List InboxItem) (i : InboxItem) → i.at ≡ after_all first items → StandInARow first items
    → StandInARow first (items ++ i ∷ [])
row_more first [] i at row = (at, tt)
row_more first (j ∷ items) i at row = (row.0, row_more (right_after j.at j.next) items i at row.1)

pub after_more : (first : OutPos) (items : List InboxItem) (i : InboxItem) → after_all first (items ++ i ∷ []) ≡ right_after i.at i.next
after_more first [] i = refl
after_more first (j ∷ items) i = after_more (right_after j.at j.next) items i

-- an output of a row stands right after those before it
pub stands_after : (first : OutPos) (before : List InboxItem) (i : InboxItem) (later : List InboxItem) → StandInARow first (before ++ i ∷ later)
    → i.at ≡ after_all first before
stands_after first [] i later row = row.0
stands_after first (j ∷ before) i later row = stands_after (right_after j.at j.next) before i later row.1

-- the first position of a date
abbrev pub first_of : ℕ → OutPos
first_of date = record { date = date; seq = 1 }

-- the wanted position is right after the last output of the inbox
pub wanted_last : (o : BankOpening) (kept : List BankEntry) → LawfulBank o kept → wanted o kept ≡ after_all (first_of o.date) (inbox kept)
wanted_last o [] lawful = refl
wanted_last o (Drafted imad text ∷ older) lawful = wanted_last o older lawful.1
wanted_last o (Answered imad verdict ∷ older) lawful = wanted_last o older lawful.1
wanted_last o (Received at text next ∷ older) lawful =
    wanted_after o older at text next lawful.0 ∙ sym (after_more (first_of o.date) (inbox older) (record { at = at; text = text; next = next }))
