-- What a host sends on a day of two banks: ALPHA BANK on the line BANKA001 pays BETA BANK on the line BANKB001.
use Rattle.std.specs.Prelude.{◌≡◌, refl, ℕ, Bool, true, false, List, [], ◌∷◌, ◌++◌, length, codes, Some, None, option_map, pos}
use Rattle.std.specs.List.{flat_map}
use Rattle.std.proofs.Common.{◌-◌, ◌*◌, ⊎_elim, inl, inr, lit≤, arith}
use Rattle.faim_base.specs.declared.ids.Imad.{Imad}
use Rattle.faim_base.specs.declared.judgement.Head.{Head}
use Rattle.faim_base.specs.declared.judgement.Verdict.TheVariants.{Taken, Refused}
use Rattle.faim_base.specs.Calendar.{date_from, date_in_year, date_text, days_of_months, days_of_years}
use Rattle.faim_base.specs.Digits.{padded}
use Rattle.faim_base.specs.Refusals.{e001, e002, f401, h102, x201}
use Rattle.faim_message.specs.Forms.{permitted}
use Rattle.faim_tags.specs.Layouts.{row_of}
use Rattle.host_ledger.specs.declared.config.Config.{Config}
use Rattle.host_ledger.specs.declared.entries.Entry.{Entry}
use Rattle.host_ledger.specs.declared.entries.Entry.TheVariants.{Posted, Roll}
use Rattle.link_frames.specs.declared.frame.FrameKind.TheVariants.{Ack, Output}
use Rattle.link_frames.specs.Frames.{Content as Frame}
use Rattle.faim_model.specs.Outputs.{Item, outputs}
use Rattle.faim_model.specs.ServiceTags.{moment_tag}
use Rattle.faim_model.specs.Frames.{Covered, IsAck, IsAckMark, IsOutput, IsOutputMark, IsTurned, ack, has_identifier, output, turned}
use Rattle.faim_model.proofs.Members.{first_in, none_in}

abbrev alpha : List ℕ
alpha = codes "021000021"

abbrev beta : List ℕ
beta = codes "121042882"

abbrev alpha_line : List ℕ
alpha_line = codes "BANKA001"

abbrev beta_line : List ℕ
beta_line = codes "BANKB001"

-- a test host on 2024-01-02
abbrev host : Config
host = record {
  env = 84;
  date = 8767;
  customer = 1110;
  bank = 1080;
  accounts = record { aba = alpha; endpoint = alpha_line; opening = pos 1000000; floor = pos 0 }
      ∷ record { aba = beta; endpoint = beta_line; opening = pos 0; floor = pos 0 } ∷ [];
}

-- half past nine of that day
abbrev morning : ℕ
morning = 12_625_050

abbrev imad : Imad
imad = record { date = 8767; source = alpha_line; seq = 1 }

-- a message of type 10 and this subtype
abbrev head : ℕ → Head
head sub = record { imad = imad; sender = alpha; receiver = beta; code = codes "BTR"; kind = 10; sub = sub; amount = 150000 }

-- its tags, with its mark and the digits of its subtype
abbrev tags : List ℕ → List ℕ → List (List ℕ)
tags mark sub =
    (codes "{1500}30USERREQ1T" ++ mark) ∷ (codes "{1510}10" ++ sub) ∷ codes "{1520}20240102BANKA001000001" ∷ codes "{2000}000000150000"
    ∷ codes "{3100}021000021ALPHA BANK*" ∷ codes "{3400}121042882BETA BANK*" ∷ codes "{3600}BTR" ∷ []

-- its text, joined, and with a break after each tag
abbrev text : List ℕ → List ℕ → List ℕ
text mark sub = flat_map (λ (t : List ℕ). t) (tags mark sub)

abbrev broken : List ℕ → List ℕ
broken break = flat_map (λ (t : List ℕ). t ++ break) (tags (codes " ") (codes "00"))

payment_is : text (codes " ") (codes "00")
    ≡ codes "{1500}30USERREQ1T {1510}1000{1520}20240102BANKA001000001{2000}000000150000{3100}021000021ALPHA BANK*{3400}121042882BETA BANK*{3600}BTR"
payment_is = refl

-- posted in the morning, and taken
abbrev posted : ℕ → Bool → List ℕ → Entry
posted sub resent body = Posted (head sub) body resent morning (Taken beta_line 1)

-- a payment that moves money, and a request of subtype 31, which moves none
abbrev payment : Entry
payment = posted 0 false (text (codes " ") (codes "00"))

abbrev request : Entry
request = posted 31 false (text (codes " ") (codes "31"))

-- the first output to BETA BANK
abbrev first : Entry → Item
first x = record { at = record { date = 8767; seq = 1 }; place = 0; entry = x }

-- an acknowledgement to ALPHA BANK, and an output to BETA BANK
abbrev to_alpha : List ℕ → Frame
to_alpha payload = record { kind = Ack; endpoint = alpha_line; payload = payload }

abbrev to_beta : List ℕ → Frame
to_beta payload = record { kind = Output; endpoint = beta_line; payload = payload }

-- a message that moves money is acknowledged with status 2
acknowledged : ack host (payment ∷ []) 0 32
    ≡ Some (to_alpha (codes "{1100}30T 2{1110}01020930FAIM{1120}20240102BANKB00100000101020930FAIM{1520}20240102BANKA001000001"))
unfolding date_from date_in_year date_text padded
acknowledged = refl

ack_length : option_map (λ (f : Frame). length f.payload) (ack host (payment ∷ []) 0 32)
    ≡ Some 97
unfolding date_from date_in_year date_text padded
ack_length = refl

-- it goes to the receiver with status N
given : outputs host (payment ∷ []) beta_line
    ≡ first payment ∷ []
given = refl

delivered : output host beta_line (first payment) 32
    ≡ to_beta (codes "{1100}30T N{1110}01020930FAIM{1120}20240102BANKB00100000101020930FAIM" ++ text (codes " ") (codes "00"))
unfolding date_from date_in_year date_text padded days_of_months days_of_years row_of permitted
delivered = refl

output_length : length (output host beta_line (first payment) 32).payload
    ≡ 203
unfolding date_from date_in_year date_text padded days_of_months days_of_years row_of permitted
output_length = refl

-- a message that moves none is acknowledged with status 7 and goes out with status S
request_acknowledged : ack host (request ∷ []) 0 32
    ≡ Some (to_alpha (codes "{1100}30T 7{1110}01020930FAIM{1120}20240102BANKB00100000101020930FAIM{1520}20240102BANKA001000001"))
unfolding date_from date_in_year date_text padded
request_acknowledged = refl

request_delivered : output host beta_line (first request) 32
    ≡ to_beta (codes "{1100}30T S{1110}01020930FAIM{1120}20240102BANKB00100000101020930FAIM" ++ text (codes " ") (codes "31"))
unfolding date_from date_in_year date_text padded days_of_months days_of_years row_of permitted
request_delivered = refl

-- a refusal has status 3 and its text in place of an output
refused : ack host (Posted (head 0) (text (codes " ") (codes "00")) false morning (Refused f401) ∷ []) 0 32
    ≡ Some (to_alpha (codes "{1100}30T 3{1110}01020930FAIM{1130}F401BALANCE BELOW FLOOR*{1520}20240102BANKA001000001"))
unfolding date_from date_in_year date_text padded
refused = refl

-- a verdict that is told again has P as its mark, an output that is retrieved has R
told_again : ack host (payment ∷ []) 0 80
    ≡ Some (to_alpha (codes "{1100}30TP2{1110}01020930FAIM{1120}20240102BANKB00100000101020930FAIM{1520}20240102BANKA001000001"))
unfolding date_from date_in_year date_text padded
told_again = refl

retrieved : output host beta_line (first payment) 82
    ≡ to_beta (codes "{1100}30TRN{1110}01020930FAIM{1120}20240102BANKB00100000101020930FAIM" ++ text (codes " ") (codes "00"))
unfolding date_from date_in_year date_text padded days_of_months days_of_years row_of permitted
retrieved = refl

no_ack_is_retrieved : IsAckMark 82 → ⊥
no_ack_is_retrieved marked = ⊎_elim (λ (blank : 82 ≡ 32). omega arith) (λ (again : 82 ≡ 80). omega arith) marked

no_output_has_x : IsOutputMark 88 → ⊥
no_output_has_x marked =
    ⊎_elim (λ (blank : 88 ≡ 32). omega arith) (λ more. ⊎_elim (λ (again : 88 ≡ 80). omega arith) (λ (retrieved : 88 ≡ 82). omega arith) more) marked

-- the text of a message that was resent goes out with P as its own mark
resent_delivered : output host beta_line (first (posted 0 true (text (codes " ") (codes "00")))) 32
    ≡ to_beta (codes "{1100}30T N{1110}01020930FAIM{1120}20240102BANKB00100000101020930FAIM" ++ text (codes "P") (codes "00"))
unfolding date_from date_in_year date_text padded days_of_months days_of_years row_of permitted
resent_delivered = refl

-- a submission's breaks stand after the host's own tags too
broken_delivered : output host beta_line (first (posted 0 false (broken (10 ∷ [])))) 32
    ≡ to_beta (codes "{1100}30T N" ++ 10 ∷ codes "{1110}01020930FAIM" ++ 10 ∷ codes "{1120}20240102BANKB00100000101020930FAIM" ++ 10 ∷ broken (10 ∷ []))
unfolding date_from date_in_year date_text padded days_of_months days_of_years row_of permitted
broken_delivered = refl

returned_delivered : output host beta_line (first (posted 0 false (broken (13 ∷ 10 ∷ [])))) 32
    ≡ to_beta (codes "{1100}30T N" ++ 13 ∷ 10 ∷ codes "{1110}01020930FAIM" ++ 13 ∷ 10 ∷ codes "{1120}20240102BANKB00100000101020930FAIM" ++ 13 ∷ 10 ∷ broken (13 ∷ 10 ∷ []))
unfolding date_from date_in_year date_text padded days_of_months days_of_years row_of permitted
returned_delivered = refl

-- a submission that is turned away is refused, with its identifier where it has one
no_message : turned host e001 None morning alpha_line
    ≡ to_alpha (codes "{1100}30T 3{1110}01020930FAIM{1130}E001TEXT IS NOT A MESSAGE*")
unfolding date_from date_in_year date_text padded
no_message = refl

other_text : turned host x201 (Some imad) morning alpha_line
    ≡ to_alpha (codes "{1100}30T 3{1110}01020930FAIM{1130}X201IMAD IS KNOWN WITH OTHER TEXT*{1520}20240102BANKA001000001")
unfolding date_from date_in_year date_text padded
other_text = refl

identified : (has_identifier e001 ≡ false) × (has_identifier e002 ≡ false) × (has_identifier h102 ≡ true) × (has_identifier x201 ≡ true)
identified = (refl, refl, refl, refl)

-- the end of a cycle goes out under its old date with the next number, and tells the new date
ended : outputs host (Roll morning 8768 ∷ payment ∷ []) beta_line
    ≡ first payment ∷ record { at = record { date = 8767; seq = 2 }; place = 1; entry = Roll morning 8768 } ∷ []
ended = refl

end_delivered : output host beta_line (record { at = record { date = 8767; seq = 2 }; place = 1; entry = Roll morning 8768 }) 32
    ≡ to_beta (codes "{1100}30T E{1110}01020930FAIM{1120}20240102BANKB00100000201020930FAIM{9000}NEXT 20240103*")
unfolding date_from date_in_year date_text padded days_of_months days_of_years row_of permitted
end_delivered = refl

-- a Roll has no acknowledgement
roll_unacknowledged : ack host (Roll morning 8768 ∷ payment ∷ []) 1 32
    ≡ None
roll_unacknowledged = refl

-- a place is that of an entry, the oldest first
first_place : ack host (Roll morning 8768 ∷ payment ∷ []) 0 32
    ≡ ack host (payment ∷ []) 0 32
first_place = refl

-- a production host says so
production_acknowledged : ack (record host { env = 80 }) (payment ∷ []) 0 32
    ≡ Some (to_alpha (codes "{1100}30P 2{1110}01020930FAIM{1120}20240102BANKB00100000101020930FAIM{1520}20240102BANKA001000001"))
unfolding date_from date_in_year date_text padded
production_acknowledged = refl

-- the last minute of a year's last day
last_minute_of_a_year : (moment_tag (1440 * 366 - 1)).fixed
    ≡ codes "12312359FAIM"
unfolding date_from date_in_year date_text padded
last_minute_of_a_year = refl

-- what is covered: acknowledgements of the entry, its outputs, and what turns a submission away
first_ack_covered : IsAck host (payment ∷ []) (to_alpha (codes "{1100}30T 2{1110}01020930FAIM{1120}20240102BANKB00100000101020930FAIM{1520}20240102BANKA001000001"))
first_ack_covered = record { place = 0; mark = 32; marked = inl refl; sent = acknowledged }

again_covered : IsAck host (payment ∷ []) (to_alpha (codes "{1100}30TP2{1110}01020930FAIM{1120}20240102BANKB00100000101020930FAIM{1520}20240102BANKA001000001"))
again_covered = record { place = 0; mark = 80; marked = inr refl; sent = told_again }

output_covered : (mark : ℕ) → IsOutputMark mark → Covered host (payment ∷ []) (output host beta_line (first payment) mark)
output_covered mark marked =
    inr (inl (record { line = beta_line; item = first payment; there = first_in (first payment) []; mark = mark; marked = marked; sent = refl }))

output_marks : IsOutputMark 32 × IsOutputMark 80 × IsOutputMark 82
output_marks = (inl refl, inr (inl refl), inr (inr refl))

no_message_covered : Covered host [] (turned host e001 None morning alpha_line)
no_message_covered = inr (inr (record {
  why = e001;
  away = refl;
  imad = None;
  identified = refl;
  imad_sound = tt;
  moment = morning;
  moment_sound = lit≤ tt;
  line = alpha_line;
  line_sound = (refl, refl);
  sent = refl;
}))

other_text_covered : Covered host [] (turned host x201 (Some imad) morning alpha_line)
other_text_covered = inr (inr (record {
  why = x201;
  away = refl;
  imad = Some imad;
  identified = refl;
  imad_sound = record { day = lit≤ tt; sender = (refl, refl); number = (lit≤ tt, lit≤ tt) };
  moment = morning;
  moment_sound = lit≤ tt;
  line = alpha_line;
  line_sound = (refl, refl);
  sent = refl;
}))

-- a list without entries covers nothing else
nothing_else : (f : Frame) → Covered host [] f → IsTurned host f
nothing_else f covered =
    ⊎_elim (λ (a : IsAck host [] f). let none : None ≡ Some f = a.sent in absurd cc)
    (λ more. ⊎_elim (λ (o : IsOutput host [] f). absurd (none_in o.item o.there)) (λ t. t) more) covered
