-- Which lists of a bank's entries, the newest first, the rules allow.
use Rattle.std.specs.Prelude.{◌≡◌, ℕ, zero, suc, ◌+◌, ◌<◌, ◌≤◌, ◌==◌, Bool, false, List, [], ◌∷◌, ◌++◌, length, map, filter, Option, Some, None, Ok}
use Rattle.faim_base.specs.Numbers.{IsDay}
use Rattle.faim_base.specs.declared.ids.Imad.{Imad}
use Rattle.faim_base.specs.declared.ids.OutPos.{OutPos}
use Rattle.bank_books.specs.declared.entries.BankEntry.{BankEntry}
use Rattle.bank_books.specs.declared.entries.BankEntry.TheVariants.{Drafted, Answered, Received}
use Rattle.bank_books.specs.declared.entries.BankOpening.{BankOpening}
use Rattle.bank_books.specs.declared.outcomes.AckCase.TheVariants.{Fresh}
use Rattle.bank_books.specs.Drafts.{ack_case, drafts_of, same_imad}
use Rattle.bank_books.specs.Inbox.{InboxItem, inbox, wanted}
use Rattle.bank_books.specs.Numbering.{next_imad}

-- what may stand as the next date of an output at a position: that of an end of a cycle is later than the position's,
-- and a message has none, and no number above 999,998
abbrev pub MayGoOn : OutPos → Option ℕ → Type 0
MayGoOn at (Some date) = (at.date < date) × IsDay date
MayGoOn at None = at.seq ≤ 999_998

-- an output may be received after these entries: at the wanted position
pub record ReceivedFollows (o : BankOpening) (older : List BankEntry) (at : OutPos) (next : Option ℕ) : Type 0 where
  pub position : at ≡ wanted o older
  pub date : MayGoOn at next

-- an entry may come after these: a draft with the next IMAD, a verdict for a draft that has none, an output at the wanted
-- position
abbrev pub BankFollows : BankOpening → List BankEntry → BankEntry → Type 0
BankFollows o older (Drafted imad text) = next_imad o older ≡ Ok imad
BankFollows o older (Answered imad verdict) = ack_case older imad ≡ Fresh
BankFollows o older (Received at text next) = ReceivedFollows o older at next

-- each entry may come after those before it
abbrev pub LawfulBank : BankOpening → List BankEntry → Type 0
LawfulBank o [] = Unit {0}
LawfulBank o (x ∷ older) = BankFollows o older x × LawfulBank o older

-- the entry is a verdict for this IMAD
abbrev pub answers : Imad → BankEntry → Bool
answers imad (Drafted own text) = false
answers imad (Answered own verdict) = same_imad own imad
answers imad (Received at text next) = false

-- how many verdicts came for an IMAD
abbrev pub times_answered : Imad → List BankEntry → ℕ
times_answered imad es = length (filter (answers imad) es)

-- the numbers of the drafts of a cycle date, the oldest first
abbrev pub draft_numbers : ℕ → List BankEntry → List ℕ
draft_numbers date es = map (λ d. d.imad.seq) (drafts_of date es)

-- what was received under a date
abbrev pub received_under : ℕ → List BankEntry → List InboxItem
received_under date es = filter (λ (i : InboxItem). i.at.date == date) (inbox es)

-- its numbers, the oldest first
abbrev pub received_numbers : ℕ → List BankEntry → List ℕ
received_numbers date es = map (λ (i : InboxItem). i.at.seq) (received_under date es)

-- 1, 2, 3 and so on to n
abbrev pub one_to : ℕ → List ℕ
one_to zero = []
one_to (suc n) = one_to n ++ suc n ∷ []

-- the position right after that of an output: the next number, and after the end of a cycle number 1 of its next date
abbrev pub right_after : OutPos → Option ℕ → OutPos
right_after at (Some date) = record { date = date; seq = 1 }
right_after at None = record { date = at.date; seq = at.seq + 1 }

-- each output stands right after the one before it, the first at this position
abbrev pub StandInARow : OutPos → List InboxItem → Type 0
StandInARow first [] = Unit {0}
StandInARow first (i ∷ items) = (i.at ≡ first) × StandInARow (right_after i.at i.next) items
