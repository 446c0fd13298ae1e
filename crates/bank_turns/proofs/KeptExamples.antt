-- What the banks BANKA001 and BANKB001 of the test line keep on 2024-01-02, and what a full cycle takes.
use Rattle.std.proofs.Common.{◌∙◌, sym, ap, inl, arith}
use Rattle.std.specs.Prelude.{◌≡◌, refl, ℕ, ◌<◌, List, [], ◌∷◌, ◌++◌, codes, Option, option_map, Some, None, Ok, slice_index}
use Rattle.faim_base.specs.declared.ids.Imad.{Imad}
use Rattle.faim_base.specs.declared.ids.OutPos.{OutPos}
use Rattle.faim_base.specs.declared.judgement.Verdict.{Verdict}
use Rattle.faim_base.specs.declared.judgement.Verdict.TheVariants.{Taken}
use Rattle.faim_base.specs.Calendar.{date_from, date_in_year, date_text, days_of_months, days_of_years}
use Rattle.faim_base.specs.Digits.{padded}
use Rattle.faim_base.specs.Numbers.{greatest_seq}
use Rattle.faim_message.specs.declared.form.Form.TheVariants.{Input}
use Rattle.faim_message.specs.Decoded.{decoded}
use Rattle.faim_message.specs.Forms.{permitted}
use Rattle.faim_message.specs.Spelling.{Content, mark_in}
use Rattle.faim_tags.specs.Layouts.{row_of}
use Rattle.link_frames.specs.declared.frame.FrameKind.{FrameKind}
use Rattle.link_frames.specs.Frames.{Content as Frame}
use Rattle.bank_books.specs.declared.entries.BankEntry.{BankEntry}
use Rattle.bank_books.specs.declared.entries.BankEntry.TheVariants as entry
use Rattle.bank_books.specs.declared.entries.BankOpening.{BankOpening}
use Rattle.bank_books.specs.declared.outcomes.BankOutcome.TheVariants.{SeqFull, Strange}
use Rattle.bank_books.specs.Inbox.{bank_cycle}
use Rattle.bank_books.specs.Lawful.{LawfulBank}
use Rattle.bank_books.specs.Numbering.{drafts_in_cycle, next_imad}
use Rattle.bank_books.specs.Openings.{IsBankOpening}
use Rattle.bank_books.proofs.Counted.{none_later}
use Rattle.bank_turns.specs.BankSteps.{bank_step, sending}
use Rattle.bank_turns.specs.KeptTexts.{KeepsDraft, Keeps, KeptBank}
use Rattle.bank_turns.specs.OutputTexts.{Given, output_given}
use Rattle.bank_turns.proofs.Counts.{full_keeps_none}
use Rattle.bank_turns.proofs.KeptSteps.{step_kept}

abbrev bank : List ℕ → BankOpening
bank line = record { endpoint = line; env = 84; date = 8767 }

abbrev payer : BankOpening
payer = bank (codes "BANKA001")

abbrev payee : BankOpening
payee = bank (codes "BANKB001")

abbrev to_payer : FrameKind → List ℕ → Frame
to_payer kind payload = record { kind = kind; endpoint = codes "BANKA001"; payload = payload }

abbrev imad : Imad
imad = record { date = 8767; source = codes "BANKA001"; seq = 1 }

abbrev draft : List ℕ
draft = codes "{1500}30USERREQ1T {1510}1000{2000}000000150000{3100}021000021ALPHA BANK*{3400}121042882BETA BANK*{3600}BTR"

-- the same with the first number, and a mark
abbrev text : List ℕ → List ℕ
text mark =
    codes "{1500}30USERREQ1T" ++ mark ++ codes "{1510}1000{1520}20240102BANKA001000001{2000}000000150000"
    ++ codes "{3100}021000021ALPHA BANK*{3400}121042882BETA BANK*{3600}BTR"

-- the mark of a text
abbrev mark_of : List ℕ → Option ℕ
mark_of bytes = option_map (λ (m : Content). mark_in Input m.tags) (decoded Input bytes)

another : ◌≡◌ {A = Option ℕ} (Some 80) (Some 32) → ⊥
another same = absurd cc

marked : mark_of (text (codes "P")) ≡ Some 80
unfolding row_of permitted
marked = refl

-- a draft is kept with a blank as its mark: with another mark its text isn't what is kept
marked_differs : KeepsDraft imad (text (codes "P")) → ⊥
marked_differs k =
    let blank : mark_of (text (codes "P")) ≡ Some 32 =
    ap (option_map (λ (m : Content). mark_in Input m.tags)) k.read ∙ ap (λ (n : ℕ). Some n) k.blank in
    another (sym marked ∙ blank)

payer_sound : IsBankOpening payer
payer_sound = record { endpoint = (refl, refl); env = inl refl; date = omega arith }

-- the list with one draft keeps what it is to keep
abbrev one_entry : List BankEntry
one_entry = entry.Drafted imad (text (codes " ")) ∷ []

one_draft : KeptBank payer one_entry
unfolding date_from date_in_year date_text padded days_of_months days_of_years row_of permitted
one_draft = step_kept payer [] (to_payer FrameKind.Draft draft) payer_sound tt

-- an acknowledgement of an identifier
abbrev ack : List ℕ → Frame
ack named =
    to_payer FrameKind.Ack (codes "{1100}30T 2{1110}01020930FAIM{1120}20240102BANKB00100000101020930FAIM{1520}" ++ named)

-- so does the list with its verdict
one_verdict : KeptBank payer (entry.Answered imad (Taken (codes "BANKB001") 1) ∷ one_entry)
unfolding date_from date_in_year date_text padded days_of_months days_of_years row_of permitted
one_verdict = step_kept payer one_entry (ack (codes "20240102BANKA001000001")) payer_sound one_draft

-- strange: an identifier with a thirteenth month, and one with the number 0
malformed_is_strange : (bank_step payer one_entry (ack (codes "20241302BANKA001000001")) ≡ sending [] Strange)
    × (bank_step payer one_entry (ack (codes "20240102BANKA001000000")) ≡ sending [] Strange)
unfolding date_from date_in_year date_text padded days_of_months days_of_years row_of permitted
malformed_is_strange = (refl, refl)

-- an output: its mark
abbrev output : List ℕ → List ℕ
output mark = codes "{1100}30T" ++ mark ++ codes "S{1110}01020930FAIM{1120}20240102BANKB00100000101020930FAIM"

abbrev at : OutPos
at = record { date = 8767; seq = 1 }

-- an output is kept with a blank as its mark, and with no other
kept_blank : (Keeps payee (entry.Received at (output (codes " ")) None))
    × (output_given payee (output (codes "P")) ≡ Some (record { at = at; text = output (codes " "); next = None }))
unfolding date_from date_in_year date_text padded days_of_months days_of_years row_of permitted
kept_blank = (refl, refl)

marked_output_differs : Keeps payee (entry.Received at (output (codes "P")) None) → ⊥
marked_output_differs kept =
    let marks : ◌≡◌ {A = Option ℕ} (Some 80) (Some 32) =
    ap (option_map (λ (g : Given). slice_index g.text 9)) (sym kept ∙ kept_blank.1) in
    another marks

-- entries after which the cycle has all its drafts
module _ (full : List BankEntry) (verdict : Verdict) (all : drafts_in_cycle payer full ≡ greatest_seq) where
  -- with a verdict and an output after them it still has them all, and no draft is kept
  still_full : bank_step payer (entry.Received at (output (codes " ")) None ∷ entry.Answered imad verdict ∷ full) (to_payer FrameKind.Draft draft)
      ≡ sending [] SeqFull
  unfolding row_of permitted
  still_full =
      full_keeps_none payer (entry.Received at (output (codes " ")) None ∷ entry.Answered imad verdict ∷ full) (to_payer FrameKind.Draft draft)
      _ refl refl refl all

  -- after the end of the cycle drafts are numbered from 1 again
  numbered_again : LawfulBank payer full → bank_cycle payer full < 8768
      → next_imad payer (entry.Received at (output (codes " ")) (Some 8768) ∷ full)
      ≡ Ok (record { date = 8768; source = codes "BANKA001"; seq = 1 })
  numbered_again lawful before = rw (none_later payer full 8768 lawful before) refl
