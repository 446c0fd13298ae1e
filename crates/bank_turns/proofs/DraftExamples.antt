-- A bank BANKA001 of the test line on 2024-01-02 that gets a text to draft.
use Rattle.std.specs.Prelude.{◌≡◌, refl, ℕ, List, [], ◌∷◌, ◌++◌, codes, Some, None}
use Rattle.faim_base.specs.declared.ids.Imad.{Imad}
use Rattle.faim_base.specs.declared.judgement.Refused.TheVariants.{Byte, Cut, Missing}
use Rattle.faim_base.specs.Calendar.{date_from, date_in_year, date_text, days_of_months, days_of_years}
use Rattle.faim_base.specs.Digits.{padded}
use Rattle.faim_message.specs.Forms.{permitted}
use Rattle.faim_tags.specs.Layouts.{row_of}
use Rattle.link_frames.specs.declared.frame.FrameKind.{FrameKind}
use Rattle.link_frames.specs.Frames.{Content as Frame}
use Rattle.bank_books.specs.declared.entries.BankEntry.TheVariants as entry
use Rattle.bank_books.specs.declared.entries.BankOpening.{BankOpening}
use Rattle.bank_books.specs.declared.outcomes.BankOutcome.TheVariants.{Drafted, DraftRefused, Resent, Strange}
use Rattle.bank_turns.specs.BankSteps.{bank_step}

abbrev line : List ℕ
line = codes "BANKA001"

abbrev bank : BankOpening
bank = record { endpoint = line; env = 84; date = 8767 }

abbrev on : FrameKind → List ℕ → Frame
on kind payload = record { kind = kind; endpoint = line; payload = payload }

abbrev draft : List ℕ
draft = codes "{1500}30USERREQ1T {1510}1000{2000}000000150000{3100}021000021ALPHA BANK*{3400}121042882BETA BANK*{3600}BTR"

-- the same with the first number, and a mark
abbrev text : List ℕ → List ℕ
text mark =
    codes "{1500}30USERREQ1T" ++ mark ++ codes "{1510}1000{1520}20240102BANKA001000001{2000}000000150000"
    ++ codes "{3100}021000021ALPHA BANK*{3400}121042882BETA BANK*{3600}BTR"

abbrev imad : Imad
imad = record { date = 8767; source = line; seq = 1 }

-- it is kept with its number, and submitted
drafted : bank_step bank [] (on FrameKind.Draft draft)
    ≡ record {
      adds = Some (entry.Drafted imad (text (codes " ")));
      sends = on FrameKind.Submit (text (codes " ")) ∷ [];
      outcome = Drafted imad;
    }
unfolding date_from date_in_year date_text padded days_of_months days_of_years row_of permitted
drafted = refl

-- a reminder submits it again, marked P, and asks for the first output
reminded : bank_step bank (entry.Drafted imad (text (codes " ")) ∷ []) (on FrameKind.Tick [])
    ≡ record {
      adds = None;
      sends = on FrameKind.Submit (text (codes "P")) ∷ on FrameKind.Retrieve (codes "20240102000001") ∷ [];
      outcome = Resent 1;
    }
unfolding date_from date_in_year date_text padded days_of_months days_of_years row_of permitted
reminded = refl

-- a text that is cut off is refused, and a frame of another line is strange
cut_off : bank_step bank [] (on FrameKind.Draft (codes "{1500}")) ≡ record { adds = None; sends = []; outcome = DraftRefused Cut }
unfolding date_from date_in_year date_text padded days_of_months days_of_years row_of permitted
cut_off = refl

other_line : bank_step bank [] (record { kind = FrameKind.Draft; endpoint = codes "BANKB001"; payload = draft })
    ≡ record { adds = None; sends = []; outcome = Strange }
other_line = refl

-- a byte with which no draft goes on, and a draft without its last tag
faults : (bank_step bank [] (on FrameKind.Draft (codes "{1500}30USERREQ1T X")) ≡ record { adds = None; sends = []; outcome = DraftRefused (Byte 18) })
    × (bank_step bank [] (on FrameKind.Draft (codes "{1500}30USERREQ1T {1510}1000{2000}000000150000{3100}021000021*{3400}121042882*"))
    ≡ record { adds = None; sends = []; outcome = DraftRefused (Missing 3600) })
unfolding date_from date_in_year date_text padded days_of_months days_of_years row_of permitted
faults = (refl, refl)

-- a bank takes no submission, no retrieval and no Roll
other_kinds : (bank_step bank [] (on FrameKind.Submit draft) ≡ record { adds = None; sends = []; outcome = Strange })
    × (bank_step bank [] (on FrameKind.Retrieve (codes "20240102000001")) ≡ record { adds = None; sends = []; outcome = Strange })
    × (bank_step bank [] (on FrameKind.Roll (codes "20240103")) ≡ record { adds = None; sends = []; outcome = Strange })
other_kinds = (refl, refl, refl)
