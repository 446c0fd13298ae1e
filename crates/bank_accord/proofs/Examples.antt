-- A bank BANKA001 of the test line that pays from one account of its own to another on 2024-01-02, and a host that took the payment.
use Rattle.std.specs.Prelude.{◌≡◌, refl, ℕ, ◌==◌, Bool, true, false, List, [], ◌∷◌, ◌++◌, codes, get_or, slice_index, Some, None, pos}
use Rattle.std.specs.List.{Contains, IsDistinct}
use Rattle.std.proofs.Common.{⊎_elim, sym, ap, ◌∙◌, inl, inr, lit≤}
use Rattle.std.proofs.lemmas.Bool.{eq-eqb}
use Rattle.faim_base.specs.declared.ids.Imad.{Imad}
use Rattle.faim_base.specs.declared.ids.OutPos.{OutPos}
use Rattle.faim_base.specs.declared.judgement.Head.{Head}
use Rattle.faim_base.specs.declared.judgement.Verdict.{Verdict}
use Rattle.faim_base.specs.declared.judgement.Verdict.TheVariants.{Taken, Refused}
use Rattle.faim_base.specs.Calendar.{date_from, date_in_year, date_text, days_of_months, days_of_years}
use Rattle.faim_base.specs.Digits.{padded}
use Rattle.faim_base.specs.Refusals.{f401}
use Rattle.faim_message.specs.Forms.{permitted}
use Rattle.faim_tags.specs.Layouts.{row_of}
use Rattle.link_frames.specs.declared.frame.FrameKind.{FrameKind}
use Rattle.link_frames.specs.Frames.{Content as Frame}
use Rattle.host_ledger.specs.declared.config.Config.{Config}
use Rattle.host_ledger.specs.declared.entries.Entry.{Entry}
use Rattle.host_ledger.specs.declared.entries.Entry.TheVariants.{Posted, Roll}
use Rattle.host_ledger.specs.Soundness.{operator}
use Rattle.bank_books.specs.declared.entries.BankEntry.{BankEntry}
use Rattle.bank_books.specs.declared.entries.BankEntry.TheVariants.{Drafted, Answered, Received}
use Rattle.bank_books.specs.declared.entries.BankOpening.{BankOpening}
use Rattle.faim_model.specs.Outputs.{Item}
use Rattle.faim_model.specs.Frames.{IsAck, IsOutput, IsTurned}
use Rattle.faim_model.proofs.Imads.{bytes_differ}
use Rattle.faim_model.proofs.Members.{first_in, first_or_later, none_in}
use Rattle.bank_turns.specs.BankSteps.{adds_to, bank_step}
use Rattle.bank_accord.specs.Accord.{Accords, HasVerdict, InboxStands, IsHost, IsTrusted, VerdictsStand}
use Rattle.bank_accord.proofs.Accorded.{no_verdict, one_verdict}

abbrev line : List ℕ
line = codes "BANKA001"

abbrev alpha : List ℕ
alpha = codes "021000021"

abbrev beta : List ℕ
beta = codes "121042882"

abbrev bank : BankOpening
bank = record { endpoint = line; env = 84; date = 8767 }

-- both accounts are served at the bank's line
abbrev host : Config
host = record {
  env = 84;
  date = 8767;
  customer = 1110;
  bank = 1080;
  accounts = record { aba = alpha; endpoint = line; opening = pos 1000000; floor = pos 0 }
      ∷ record { aba = beta; endpoint = line; opening = pos 0; floor = pos 0 } ∷ [];
}

abbrev imad : Imad
imad = record { date = 8767; source = line; seq = 1 }

abbrev head : Head
head = record { imad = imad; sender = alpha; receiver = beta; code = codes "BTR"; kind = 10; sub = 0; amount = 150000 }

abbrev text : List ℕ
text = codes "{1500}30USERREQ1T {1510}1000{1520}20240102BANKA001000001{2000}000000150000{3100}021000021ALPHA BANK*{3400}121042882BETA BANK*{3600}BTR"

-- the payment was taken at half past nine
abbrev payment : Entry
payment = Posted head text false 12_625_050 (Taken line 1)

abbrev posted : List Entry
posted = payment ∷ []

-- it is a host that the bank may talk to
is_host : IsHost host posted bank
unfolding IsDistinct days_of_months days_of_years row_of permitted
is_host = record {
  sound = record {
    env = inl refl;
    date = lit≤ tt;
    customer = lit≤ tt;
    bank = lit≤ tt;
    some = lit≤ tt;
    accounts = record {
      each = (
        record { aba = (refl, refl); check = refl; endpoint = (refl, refl); not_operator = bytes_differ line operator refl; opening = lit≤ tt; floor = lit≤ tt },
        (record { aba = (refl, refl); check = refl; endpoint = (refl, refl); not_operator = bytes_differ line operator refl; opening = lit≤ tt; floor = lit≤ tt }, tt),
      );
      most = lit≤ tt;
      distinct = ((refl, tt), (tt, tt));
      endpoints = lit≤ tt;
    };
  };
  lawful = (record { in_time = lit≤ tt; failed = None; spelled = refl; mark = 32; marked = inl refl; judged = refl }, tt);
  date = refl;
}

-- a frame to the bank
abbrev to_bank : FrameKind → List ℕ → Frame
to_bank kind payload = record { kind = kind; endpoint = line; payload = payload }

-- the payment's acknowledgement, told again, and its output, with a mark
abbrev ack : Frame
ack = to_bank FrameKind.Ack (codes "{1100}30TP2{1110}01020930FAIM{1120}20240102BANKA00100000101020930FAIM{1520}20240102BANKA001000001")

abbrev handed_on : List ℕ → List ℕ
handed_on mark = codes "{1100}30T" ++ mark ++ codes "N{1110}01020930FAIM{1120}20240102BANKA00100000101020930FAIM" ++ text

abbrev at : ℕ → OutPos
at seq = record { date = 8767; seq = seq }

-- what the bank keeps: its draft, the verdict on it, and the output with a blank as its mark
abbrev drafted : List BankEntry
drafted = Drafted imad text ∷ []

abbrev answered : Verdict → List BankEntry
answered verdict = Answered imad verdict ∷ drafted

abbrev received : List ℕ → List BankEntry
received own = Received (at 1) own None ∷ answered (Taken line 1)

-- it took them from frames that the host's list covers
ack_taken : adds_to (bank_step bank drafted ack).adds drafted ≡ answered (Taken line 1)
unfolding date_from date_in_year date_text padded days_of_months days_of_years row_of permitted
ack_taken = refl

output_taken : adds_to (bank_step bank (answered (Taken line 1)) (to_bank FrameKind.Output (handed_on (codes "R")))).adds (answered (Taken line 1))
    ≡ received (handed_on (codes " "))
unfolding date_from date_in_year date_text padded days_of_months days_of_years row_of permitted
output_taken = refl

ack_trusted : IsTrusted host posted ack
unfolding date_from date_in_year date_text padded
ack_trusted = inl (record { place = 0; mark = 80; marked = inr refl; sent = refl })

abbrev item : Item
item = record { at = at 1; place = 0; entry = payment }

output_trusted : IsTrusted host posted (to_bank FrameKind.Output (handed_on (codes "R")))
unfolding date_from date_in_year date_text padded days_of_months days_of_years row_of permitted
output_trusted = inr (inl (record { line = line; item = item; there = first_in item []; mark = 82; marked = inr (inr refl); sent = refl }))

-- and it is in accord with the host
own_verdict : HasVerdict posted imad (Taken line 1)
own_verdict = record { head = head; body = text; resent = false; moment = 12_625_050; there = first_in payment []; named = refl }

verdicts_stand : VerdictsStand posted (received (handed_on (codes " ")))
verdicts_stand =
    no_verdict posted (answered (Taken line 1)) (Received (at 1) (handed_on (codes " ")) None) (λ own v same. absurd cc)
    (one_verdict posted drafted imad (Taken line 1) own_verdict
    (no_verdict posted [] (Drafted imad text) (λ own v same. absurd cc) (λ own v there. absurd (none_in (Answered own v) there))))

accords : Accords host posted bank (received (handed_on (codes " ")))
unfolding date_from date_in_year date_text padded days_of_months days_of_years row_of permitted
accords = record { verdicts = verdicts_stand; inbox = ([], refl) }

-- before the output came it was too
not_yet : InboxStands host posted line (answered (Taken line 1))
unfolding date_from date_in_year date_text padded days_of_months days_of_years row_of permitted
not_yet = (handed_on (codes " ") ∷ [], refl)

-- the one entry of the list
the_payment : (h : Head) (body : List ℕ) (resent : Bool) (moment : ℕ) (v : Verdict) → Contains posted (Posted h body resent moment v)
    → Posted h body resent moment v ≡ payment
the_payment h body resent moment v there =
    ⊎_elim (λ same. same) (λ (later : Contains [] (Posted h body resent moment v)). absurd (none_in (Posted h body resent moment v) later))
    (first_or_later payment (Posted h body resent moment v) [] there)

-- two numbers that differ
apart : (a b : ℕ) → (a == b) ≡ false → a ≡ b → ⊥
apart a b differ same = let both : true ≡ false = sym (eq-eqb a b same) ∙ differ in absurd cc

-- no accord: a refusal, another number, and the same verdict on the first message of another date
refused_differs : Accords host posted bank (answered (Refused f401)) → ⊥
refused_differs accord =
    let has = accord.verdicts imad (Refused f401) (first_in (Answered imad (Refused f401)) drafted) in
    let same = the_payment has.head has.body has.resent has.moment (Refused f401) has.there in
    let verdicts : Refused f401 ≡ Taken line 1 = cc in absurd cc

number_differs : Accords host posted bank (answered (Taken line 2)) → ⊥
number_differs accord =
    let has = accord.verdicts imad (Taken line 2) (first_in (Answered imad (Taken line 2)) drafted) in
    let same = the_payment has.head has.body has.resent has.moment (Taken line 2) has.there in
    apart 2 1 refl cc

date_differs : Accords host posted bank (Answered (record imad { date = 8768 }) (Taken line 1) ∷ []) → ⊥
date_differs accord =
    let other : Imad = record imad { date = 8768 } in
    let has = accord.verdicts other (Taken line 1) (first_in (Answered other (Taken line 1)) []) in
    let same = the_payment has.head has.body has.resent has.moment (Taken line 1) has.there in
    let heads : has.head ≡ head = cc in
    apart 8767 8768 refl (ap (λ (h : Head). h.imad.date) (sym heads) ∙ ap (λ (i : Imad). i.date) has.named)

-- a byte of the first text
abbrev byte_of_first : ℕ → List (List ℕ) → ℕ
byte_of_first place texts = slice_index (get_or texts 0 []) place

-- no accord: the output's text with P as its mark
marked_differs : InboxStands host posted line (received (handed_on (codes "P"))) → ⊥
unfolding date_from date_in_year date_text padded days_of_months days_of_years row_of permitted
marked_differs stands = apart 32 80 refl (ap (byte_of_first 9) stands.1)

-- no accord: the end of the cycle without the output before it
abbrev ended : List ℕ
ended = codes "{1100}30T E{1110}01020930FAIM{1120}20240102BANKA00100000201020930FAIM{9000}NEXT 20240103*"

skipped_differs : InboxStands host (Roll 12_625_050 8768 ∷ posted) line (Received (at 2) ended (Some 8768) ∷ []) → ⊥
unfolding date_from date_in_year date_text padded days_of_months days_of_years row_of permitted
skipped_differs stands = apart 78 69 refl (ap (byte_of_first 10) stands.1)

-- a list without entries covers no acknowledgement of a payment that was taken
untrusted : IsTrusted host [] ack → ⊥
untrusted covered =
    ⊎_elim (λ (a : IsAck host [] ack). let none : None ≡ Some ack = a.sent in absurd cc)
    (λ more. ⊎_elim (λ (p : IsOutput host [] ack). none_in p.item p.there)
    (λ (t : IsTurned host ack). apart 51 50 refl (ap (λ (f : Frame). slice_index f.payload 10) t.sent)) more) covered

-- frames of the bank's own, and those that it doesn't take, may hold anything
others_trusted : (payload : List ℕ)
    → IsTrusted host [] (to_bank FrameKind.Draft payload) × IsTrusted host [] (to_bank FrameKind.Tick payload)
    × IsTrusted host [] (to_bank FrameKind.Submit payload) × IsTrusted host [] (to_bank FrameKind.Retrieve payload)
    × IsTrusted host [] (to_bank FrameKind.Roll payload)
others_trusted payload = (tt, tt, tt, tt, tt)

-- a host of another date is none that the bank may talk to
date_asked : (es : List Entry) → IsHost (record host { date = 8766 }) es bank → ⊥
date_asked es other = apart 8766 8767 refl other.date
