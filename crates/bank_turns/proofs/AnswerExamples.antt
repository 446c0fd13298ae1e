-- What banks BANKA001 and BANKB001 of the test line do on 2024-01-02 with what comes from the host.
use Rattle.std.specs.Prelude.{◌≡◌, refl, ℕ, List, [], ◌∷◌, ◌++◌, codes, Some, None}
use Rattle.faim_base.specs.declared.ids.Imad.{Imad}
use Rattle.faim_base.specs.declared.ids.OutPos.{OutPos}
use Rattle.faim_base.specs.declared.judgement.Verdict.{Verdict}
use Rattle.faim_base.specs.declared.judgement.Verdict.TheVariants.{Taken, Refused}
use Rattle.faim_base.specs.Calendar.{date_from, date_in_year, date_text, days_of_months, days_of_years}
use Rattle.faim_base.specs.Digits.{padded}
use Rattle.faim_base.specs.Refusals.{f401}
use Rattle.faim_message.specs.Forms.{permitted}
use Rattle.faim_tags.specs.Layouts.{row_of}
use Rattle.link_frames.specs.declared.frame.FrameKind.{FrameKind}
use Rattle.link_frames.specs.Frames.{Content as Frame}
use Rattle.bank_books.specs.declared.entries.BankEntry.{BankEntry}
use Rattle.bank_books.specs.declared.entries.BankEntry.TheVariants as entry
use Rattle.bank_books.specs.declared.entries.BankOpening.{BankOpening}
use Rattle.bank_books.specs.declared.outcomes.BankOutcome.TheVariants.{Answered, Gap, Received, Repeated, Strange}
use Rattle.bank_turns.specs.OutputTexts.{output_given}
use Rattle.bank_turns.specs.BankSteps.{BankStep, bank_step}

abbrev bank : List ℕ → BankOpening
bank line = record { endpoint = line; env = 84; date = 8767 }

abbrev payer : BankOpening
payer = bank (codes "BANKA001")

abbrev payee : BankOpening
payee = bank (codes "BANKB001")

abbrev to : FrameKind → List ℕ → List ℕ → Frame
to kind line payload = record { kind = kind; endpoint = line; payload = payload }

abbrev stays : BankStep
stays = record { adds = None; sends = []; outcome = Strange }

abbrev imad : Imad
imad = record { date = 8767; source = codes "BANKA001"; seq = 1 }

-- one draft, with any text
abbrev drafted : List BankEntry
drafted = entry.Drafted imad (codes "TEXT") ∷ []

-- an acknowledgement of an identifier, with what became of it
abbrev ack : List ℕ → List ℕ → List ℕ → List ℕ
ack env what identifier = codes "{1100}30" ++ env ++ codes " 2{1110}01020930FAIM" ++ what ++ codes "{1520}20240102BANK" ++ identifier

abbrev taken : List ℕ → List ℕ
taken date = codes "{1120}" ++ date ++ codes "BANKB00100000101020930FAIM"

abbrev refused : List ℕ → List ℕ
refused code = codes "{1130}" ++ code ++ codes "ANY TEXT*"

abbrev to_payer : List BankEntry → List ℕ → BankStep
to_payer es payload = bank_step payer es (to FrameKind.Ack (codes "BANKA001") payload)

abbrev answered : Verdict → BankStep
answered verdict = record { adds = Some (entry.Answered imad verdict); sends = []; outcome = Answered imad }

-- it is taken, or refused; again, it is repeated
is_taken : (to_payer drafted (ack (codes "T") (taken (codes "20240102")) (codes "A001000001")) ≡ answered (Taken (codes "BANKB001") 1))
    × (to_payer drafted (ack (codes "T") (refused (codes "F401")) (codes "A001000001")) ≡ answered (Refused f401))
    × (to_payer (entry.Answered imad (Refused f401) ∷ drafted) (ack (codes "T") (taken (codes "20240102")) (codes "A001000001"))
    ≡ record { adds = None; sends = []; outcome = Repeated })
unfolding date_from date_in_year date_text padded days_of_months days_of_years row_of permitted
is_taken = (refl, refl, refl)

-- strange: another line, an output of another date, a refusal that no entry keeps or that isn't listed
strange_verdicts : (to_payer drafted (ack (codes "P") (taken (codes "20240102")) (codes "A001000001")) ≡ stays)
    × (to_payer drafted (ack (codes "T") (taken (codes "20240103")) (codes "A001000001")) ≡ stays)
    × (to_payer drafted (ack (codes "T") (refused (codes "X201")) (codes "A001000001")) ≡ stays)
    × (to_payer drafted (ack (codes "T") (refused (codes "F402")) (codes "A001000001")) ≡ stays)
unfolding date_from date_in_year date_text padded days_of_months days_of_years row_of permitted
strange_verdicts = (refl, refl, refl, refl)

-- strange: both or none of an output and a refusal, the source of another bank, no draft of this number
strange_acks : (to_payer drafted (ack (codes "T") (taken (codes "20240102") ++ refused (codes "F401")) (codes "A001000001")) ≡ stays)
    × (to_payer drafted (ack (codes "T") [] (codes "A001000001")) ≡ stays)
    × (to_payer drafted (ack (codes "T") (taken (codes "20240102")) (codes "B001000001")) ≡ stays)
    × (to_payer drafted (ack (codes "T") (taken (codes "20240102")) (codes "A001000002")) ≡ stays)
unfolding date_from date_in_year date_text padded days_of_months days_of_years row_of permitted
strange_acks = (refl, refl, refl, refl)

-- an output: its mark and status, its destination and number, and what it hands on
abbrev output : List ℕ → List ℕ → List ℕ → List ℕ
output mark place more = codes "{1100}30T" ++ mark ++ codes "{1110}01020930FAIM{1120}20240102BANK" ++ place ++ codes "01020930FAIM" ++ more

abbrev to_payee : List BankEntry → List ℕ → BankStep
to_payee es payload = bank_step payee es (to FrameKind.Output (codes "BANKB001") payload)

abbrev at : ℕ → OutPos
at seq = record { date = 8767; seq = seq }

-- the next one is kept, with a blank as its mark; the one after it shows a gap; before the wanted one it is repeated
is_received : (to_payee [] (output (codes "RS") (codes "B001000001") [])
    ≡ record { adds = Some (entry.Received (at 1) (output (codes " S") (codes "B001000001") []) None); sends = []; outcome = Received (at 1) })
    × (to_payee [] (output (codes " S") (codes "B001000002") [])
    ≡ record { adds = None; sends = to FrameKind.Retrieve (codes "BANKB001") (codes "20240102000001") ∷ []; outcome = Gap (at 1) })
    × (to_payee (entry.Received (at 1) (codes "TEXT") None ∷ []) (output (codes "PS") (codes "B001000001") [])
    ≡ record { adds = None; sends = []; outcome = Repeated })
unfolding date_from date_in_year date_text padded days_of_months days_of_years row_of permitted
is_received = (refl, refl, refl)

-- the end of a cycle, with the date after it
is_ended : to_payee [] (output (codes " E") (codes "B001999999") (codes "{9000}NEXT 20240103*"))
    ≡ record { adds = None; sends = to FrameKind.Retrieve (codes "BANKB001") (codes "20240102000001") ∷ []; outcome = Gap (at 1) }
unfolding date_from date_in_year date_text padded days_of_months days_of_years row_of permitted
is_ended = refl

goes_on : output_given payee (output (codes " E") (codes "B001000001") (codes "{9000}NEXT 20240103*"))
    ≡ Some (record { at = at 1; text = output (codes " E") (codes "B001000001") (codes "{9000}NEXT 20240103*"); next = Some 8768 })
unfolding date_from date_in_year date_text padded days_of_months days_of_years row_of permitted
goes_on = refl

-- strange: another bank's, another mark, an end that names no later date, a message with the last number
strange_outputs : (output_given payee (output (codes " S") (codes "A001000001") []) ≡ None)
    × (output_given payee (output (codes "XS") (codes "B001000001") []) ≡ None)
    × (output_given payee (output (codes " E") (codes "B001000001") (codes "{9000}NEXT 20240102*")) ≡ None)
    × (output_given payee (output (codes " E") (codes "B001000001") []) ≡ None)
    × (output_given payee (output (codes " S") (codes "B001999999") []) ≡ None)
unfolding date_from date_in_year date_text padded days_of_months days_of_years row_of permitted
strange_outputs = (refl, refl, refl, refl, refl)

-- strange: an acknowledgement without an identifier
no_identifier : to_payer drafted (codes "{1100}30T 2{1110}01020930FAIM" ++ taken (codes "20240102")) ≡ stays
unfolding date_from date_in_year date_text padded days_of_months days_of_years row_of permitted
no_identifier = refl
