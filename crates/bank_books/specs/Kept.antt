-- What books keep beside their list, so that few calls search: what each part stands for.
use Rattle.std.specs.Prelude.{◌≡◌, ℕ, List, [], ◌∷◌, ◌++◌, length, map, Option, Some, None}
use Rattle.faim_base.specs.declared.ids.OutPos.{OutPos}
use Rattle.bank_books.specs.declared.entries.BankEntry.{BankEntry}
use Rattle.bank_books.specs.declared.entries.BankEntry.TheVariants.{Drafted, Answered, Received}
use Rattle.bank_books.specs.declared.entries.BankOpening.{BankOpening}
use Rattle.bank_books.specs.declared.rows.DraftAt.{DraftAt}
use Rattle.bank_books.specs.declared.rows.OpenDraft.{OpenDraft}
use Rattle.bank_books.specs.Drafts.{Draft, open_drafts}
use Rattle.bank_books.specs.Inbox.{wanted}
use Rattle.bank_books.specs.Numbering.{drafts_in_cycle}

-- the IMADs of the drafts, the oldest first, each with its entry's place
abbrev pub drafts_at : List BankEntry → List DraftAt
drafts_at [] = []
drafts_at (Drafted imad text ∷ older) = drafts_at older ++ record { imad = imad; entry = length older } ∷ []
drafts_at (Answered imad verdict ∷ older) = drafts_at older
drafts_at (Received at text next ∷ older) = drafts_at older

-- the IMADs of the drafts for which no verdict came, each with its place among all drafts
abbrev pub open_rows : List Draft → List OpenDraft
open_rows ds = map (λ (d : Draft). record { imad = d.imad; place = d.place }) ds

-- the places of the entries that are outputs, the oldest first
abbrev pub inbox_at : List BankEntry → List ℕ
inbox_at [] = []
inbox_at (Drafted imad text ∷ older) = inbox_at older
inbox_at (Answered imad verdict ∷ older) = inbox_at older
inbox_at (Received at text next ∷ older) = inbox_at older ++ length older ∷ []

-- each part is that of the opening and the entries
pub record Kept (o : BankOpening) (es : List BankEntry) (rows : List DraftAt) (left : List OpenDraft) (places : List ℕ) (count : ℕ) (position : OutPos) : Type 0 where
  pub drafted : rows ≡ drafts_at es
  pub unanswered : left ≡ open_rows (open_drafts es)
  pub received : places ≡ inbox_at es
  pub numbered : count ≡ drafts_in_cycle o es
  pub wanted_next : position ≡ wanted o es

-- the text of an entry that is a draft
abbrev pub draft_text : BankEntry → Option (List ℕ)
draft_text (Drafted imad text) = Some text
draft_text (Answered imad verdict) = None
draft_text (Received at text next) = None

-- the text of an entry that is an output
abbrev pub received_text : BankEntry → Option (List ℕ)
received_text (Drafted imad text) = None
received_text (Answered imad verdict) = None
received_text (Received at text next) = Some text

-- how many drafts the present cycle has after an output, of those that it had before
abbrev pub count_after : ℕ → Option ℕ → ℕ
count_after count (Some date) = 0
count_after count None = count
