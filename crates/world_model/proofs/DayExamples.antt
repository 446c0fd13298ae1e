-- A day of a world of two banks: ALPHA BANK on the line BANKA001 drafts a payment to BETA BANK on the line BANKB001. The host
-- is stopped while it takes the draft, takes it again, and both banks hear of it.
use Rattle.std.specs.Prelude.{◌≡◌, refl, ℕ, false, List, [], ◌∷◌, ◌++◌, codes, map, Some, None, pos}
use Rattle.std.proofs.Common.{arith, inr, lit≤}
use Rattle.faim_base.specs.declared.ids.Imad.{Imad}
use Rattle.faim_base.specs.declared.judgement.Head.{Head}
use Rattle.faim_base.specs.declared.judgement.Verdict.TheVariants.{Taken}
use Rattle.faim_base.specs.Calendar.{date_from, date_in_year, date_text, days_of_months, days_of_years}
use Rattle.faim_base.specs.Digits.{padded}
use Rattle.faim_message.specs.Forms.{permitted}
use Rattle.faim_tags.specs.Layouts.{row_of}
use Rattle.host_ledger.specs.declared.config.Config.{Config}
use Rattle.host_ledger.specs.declared.entries.Entry.{Entry}
use Rattle.host_ledger.specs.declared.entries.Entry.TheVariants.{Posted}
use Rattle.host_ledger.specs.Sums.{balance}
use Rattle.link_frames.specs.declared.frame.FrameKind.{FrameKind}
use Rattle.link_frames.specs.Frames.{Content as Frame}
use Rattle.bank_books.specs.declared.entries.BankEntry.TheVariants.{Drafted, Answered, Received}
use Rattle.bank_books.specs.declared.outcomes.BankOutcome.TheVariants as bank
use Rattle.bank_books.specs.Inbox.{InboxItem, inbox}
use Rattle.faim_model.specs.declared.decisions.HostOutcome.TheVariants as host
use Rattle.world_events.specs.declared.acts.Act.{Act}
use Rattle.world_events.specs.declared.acts.Act.TheVariants.{Clock, Draft, Deliver}
use Rattle.world_events.specs.declared.acts.End.TheVariants.{Host, Bank}
use Rattle.world_events.specs.declared.acts.Event.{Event}
use Rattle.world_events.specs.declared.outcomes.Kept.TheVariants as entry
use Rattle.world_events.specs.declared.outcomes.Outcome.{Outcome}
use Rattle.world_events.specs.declared.outcomes.Outcome.TheVariants as outcome
use Rattle.world_model.specs.Worlds.{World, books_with, started}
use Rattle.world_model.specs.Effects.{on_line}
use Rattle.world_model.specs.Ways.{Stopped, Through}
use Rattle.world_model.specs.WorldSteps.{WorldStep}
use Rattle.world_model.specs.Runs.{Run}

abbrev pub alpha_line : List ℕ
alpha_line = codes "BANKA001"

abbrev pub beta_line : List ℕ
beta_line = codes "BANKB001"

-- a test host on 2024-01-02
abbrev pub config : Config
config = record {
  env = 84;
  date = 8767;
  customer = 1110;
  bank = 1080;
  accounts = record { aba = codes "021000021"; endpoint = alpha_line; opening = pos 1000000; floor = pos 0 }
      ∷ record { aba = codes "121042882"; endpoint = beta_line; opening = pos 0; floor = pos 0 } ∷ [];
}

abbrev pub banks : List (List ℕ)
banks = alpha_line ∷ beta_line ∷ []

-- half past nine of that day
abbrev pub morning : ℕ
morning = 12_625_050

abbrev pub draft : List ℕ
draft = codes "{1500}30USERREQ1T {1510}1000{2000}000000150000{3100}021000021ALPHA BANK*{3400}121042882BETA BANK*{3600}BTR"

-- the same with its number and a blank as its mark
abbrev pub text : List ℕ
text = codes "{1500}30USERREQ1T {1510}1000{1520}20240102BANKA001000001{2000}000000150000{3100}021000021ALPHA BANK*{3400}121042882BETA BANK*{3600}BTR"

abbrev pub imad : Imad
imad = record { date = 8767; source = alpha_line; seq = 1 }

abbrev pub head : Head
head = record { imad = imad; sender = codes "021000021"; receiver = codes "121042882"; code = codes "BTR"; kind = 10; sub = 0; amount = 150000 }

abbrev pub paid : Entry
paid = Posted head text false morning (Taken beta_line 1)

-- the payment's acknowledgement and its output, with a mark
abbrev pub acked : List ℕ → Frame
acked mark = on_line FrameKind.Ack alpha_line
    (codes "{1100}30T" ++ mark ++ codes "2{1110}01020930FAIM{1120}20240102BANKB00100000101020930FAIM{1520}20240102BANKA001000001")

abbrev pub handed_on : List ℕ → List ℕ
handed_on mark = codes "{1100}30T" ++ mark ++ codes "N{1110}01020930FAIM{1120}20240102BANKB00100000101020930FAIM" ++ text

abbrev pub given : List ℕ → Frame
given mark = on_line FrameKind.Output beta_line (handed_on mark)

abbrev pub event : Act → Event
event act = record { stop = None; act = act }

-- what happens: the host is stopped at the fifth call, after the four that append its entry
abbrev pub events : List Event
events = event (Clock morning) ∷ event (Draft alpha_line draft) ∷ record { stop = Some (5, 0); act = Deliver Host 1 }
    ∷ event (Deliver Host 1) ∷ event (Deliver (Bank alpha_line) 1) ∷ event (Deliver (Bank beta_line) 1) ∷ event (Deliver (Bank beta_line) 2) ∷ []

abbrev pub outcomes : List Outcome
outcomes = outcome.Silent ∷ outcome.Bank alpha_line (bank.Drafted imad) ∷ outcome.Stopped entry.Kept 1
    ∷ outcome.Host (host.Known imad (Taken beta_line 1)) ∷ outcome.Bank alpha_line (bank.Answered imad)
    ∷ outcome.Bank beta_line (bank.Received (record { date = 8767; seq = 1 })) ∷ outcome.NoFrame ∷ []

-- the worlds between
abbrev pub at_morning : World
at_morning = record (started config banks) { moment = morning }

abbrev pub drafted : World
drafted = record at_morning { books = books_with alpha_line (Drafted imad text ∷ []) at_morning.books; to_host = on_line FrameKind.Submit alpha_line text ∷ [] }

-- the acknowledgement went out before the stop; the resume sends both frames, marked P
abbrev pub stopped : World
stopped = record drafted { entries = paid ∷ []; recent = 1; from_host = acked (codes " ") ∷ acked (codes "P") ∷ given (codes "P") ∷ [] }

abbrev pub known : World
known = record stopped { from_host = acked (codes " ") ∷ acked (codes "P") ∷ given (codes "P") ∷ acked (codes "P") ∷ [] }

abbrev pub answered : World
answered = record known { books = books_with alpha_line (Answered imad (Taken beta_line 1) ∷ Drafted imad text ∷ []) known.books }

abbrev pub received : World
received = record answered {
  books = books_with beta_line (Received (record { date = 8767; seq = 1 }) (handed_on (codes " ")) None ∷ []) answered.books;
}

clock_set : WorldStep (started config banks) (event (Clock morning)) outcome.Silent at_morning
clock_set = record { way = Through; may = refl; tells = refl; gives = refl }

draft_kept : WorldStep at_morning (event (Draft alpha_line draft)) (outcome.Bank alpha_line (bank.Drafted imad)) drafted
unfolding date_from date_in_year date_text padded days_of_months days_of_years row_of permitted
draft_kept = record { way = Through; may = refl; tells = refl; gives = refl }

-- the fifth call sends the acknowledgement, which is out, or not
stop_reached : WorldStep drafted (record { stop = Some (5, 0); act = Deliver Host 1 }) (outcome.Stopped entry.Kept 1) stopped
unfolding date_from date_in_year date_text padded days_of_months days_of_years row_of permitted
stop_reached = record {
  way = Stopped entry.Kept 1;
  may = record { reached = lit≤ tt; may_keep = lit≤ tt; unsent = λ early. absurd (omega (arith, early)); in_turn = λ late. inr refl };
  tells = refl;
  gives = refl;
}

taken_again : WorldStep stopped (event (Deliver Host 1)) (outcome.Host (host.Known imad (Taken beta_line 1))) known
unfolding date_from date_in_year date_text padded days_of_months days_of_years row_of permitted
taken_again = record { way = Through; may = refl; tells = refl; gives = refl }

verdict_heard : WorldStep known (event (Deliver (Bank alpha_line) 1)) (outcome.Bank alpha_line (bank.Answered imad)) answered
unfolding date_from date_in_year date_text padded days_of_months days_of_years row_of permitted
verdict_heard = record { way = Through; may = refl; tells = refl; gives = refl }

-- the first frame to the other bank is the output with P as its mark
output_heard : WorldStep answered (event (Deliver (Bank beta_line) 1)) (outcome.Bank beta_line (bank.Received (record { date = 8767; seq = 1 }))) received
unfolding date_from date_in_year date_text padded days_of_months days_of_years row_of permitted
output_heard = record { way = Through; may = refl; tells = refl; gives = refl }

-- a second one wasn't sent
none_sent : WorldStep received (event (Deliver (Bank beta_line) 2)) outcome.NoFrame received
none_sent = record { way = Through; may = refl; tells = refl; gives = refl }

pub run : Run (started config banks) events outcomes received
run = (
  at_morning,
  clock_set,
  (drafted, draft_kept, (stopped, stop_reached, (known, taken_again, (answered, verdict_heard, (received, output_heard, (received, none_sent, refl)))))),
)

-- afterwards: one entry, four frames to one bank and one to the other, the inbox, and the balances in cents
entries_left : received.entries ≡ paid ∷ []
entries_left = refl

inbox_left : map (λ (i : InboxItem). i.text) (inbox (received.books beta_line)) ≡ handed_on (codes " ") ∷ []
inbox_left = refl

balances_left : (balance config received.entries (codes "021000021") ≡ pos 850000) × (balance config received.entries (codes "121042882") ≡ pos 150000)
balances_left = (refl, refl)
