-- The drafts of a bank's list of entries, the newest first, and the verdicts that came for them.
use Rattle.std.specs.Prelude.{ℕ, ◌==◌, ◌&&◌, not, Bool, List, [], ◌∷◌, ◌++◌, length, take, map, filter, bytes_eq, if◌then◌else◌, Option, Some, None, is_some}
use Rattle.std.specs.List.{list_any}
use Rattle.faim_base.specs.declared.ids.Imad.{Imad}
use Rattle.faim_base.specs.declared.judgement.Verdict.{Verdict}
use Rattle.bank_books.specs.declared.entries.BankEntry.{BankEntry}
use Rattle.bank_books.specs.declared.entries.BankEntry.TheVariants.{Drafted, Answered, Received}
use Rattle.bank_books.specs.declared.outcomes.AckCase.{AckCase}
use Rattle.bank_books.specs.declared.outcomes.AckCase.TheVariants.{Fresh, Repeated, Strange}

-- the same date, source and number
abbrev pub same_imad : Imad → Imad → Bool
same_imad a b = (a.date == b.date) && (bytes_eq a.source b.source && (a.seq == b.seq))

-- a draft: its place among the drafts, the oldest being at 0, its IMAD, and its text
pub record Draft : Type 0 where
  pub place : ℕ
  pub imad : Imad
  pub text : List ℕ

-- the drafts, the oldest first
abbrev pub drafts : List BankEntry → List Draft
drafts [] = []
drafts (Drafted imad text ∷ older) = drafts older ++ record { place = length (drafts older); imad = imad; text = text } ∷ []
drafts (Answered imad verdict ∷ older) = drafts older
drafts (Received at text next ∷ older) = drafts older

-- the draft is of this cycle date
abbrev pub is_of : ℕ → Draft → Bool
is_of date d = d.imad.date == date

-- the drafts of a cycle date
abbrev pub drafts_of : ℕ → List BankEntry → List Draft
drafts_of date es = filter (is_of date) (drafts es)

-- a draft has this IMAD
abbrev pub is_drafted : Imad → List BankEntry → Bool
is_drafted imad es = list_any (λ d. same_imad d.imad imad) (drafts es)

-- the verdict that came for an IMAD
abbrev pub verdict_of : Imad → List BankEntry → Option Verdict
verdict_of imad [] = None
verdict_of imad (Drafted own text ∷ older) = verdict_of imad older
verdict_of imad (Answered own verdict ∷ older) = if same_imad own imad then Some verdict else verdict_of imad older
verdict_of imad (Received at text next ∷ older) = verdict_of imad older

abbrev pub is_answered : Imad → List BankEntry → Bool
is_answered imad es = is_some (verdict_of imad es)

-- no verdict came for the draft
abbrev pub is_open : List BankEntry → Draft → Bool
is_open es d = not (is_answered d.imad es)

-- the drafts for which no verdict came, the oldest first
abbrev pub open_drafts : List BankEntry → List Draft
open_drafts es = filter (is_open es) (drafts es)

-- the places of the oldest of them, at most so many
abbrev pub unanswered : ℕ → List BankEntry → List ℕ
unanswered limit es = take limit (map (λ d. d.place) (open_drafts es))

-- what an acknowledgement of an IMAD is
abbrev pub ack_case : List BankEntry → Imad → AckCase
ack_case es imad =
    if not (is_drafted imad es) then Strange
    else if is_answered imad es then Repeated
    else Fresh
