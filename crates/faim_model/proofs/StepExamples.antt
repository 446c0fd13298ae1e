-- A host's steps on a day of two banks: ALPHA BANK on the line BANKA001 pays BETA BANK on the line BANKB001.
use Rattle.std.specs.Prelude.{◌≡◌, refl, ℕ, ◌+◌, true, false, List, [], ◌∷◌, ◌++◌, codes, Some, None, pos}
use Rattle.std.proofs.Common.{lit≤}
use Rattle.std.specs.List.{AllByRecursion}
use Rattle.faim_base.specs.declared.ids.Imad.{Imad}
use Rattle.faim_base.specs.declared.judgement.Head.{Head}
use Rattle.faim_base.specs.declared.judgement.Verdict.TheVariants.{Taken, Refused}
use Rattle.faim_base.specs.Calendar.{date_from, date_in_year, date_text, days_of_months, days_of_years}
use Rattle.faim_base.specs.Digits.{padded}
use Rattle.faim_base.specs.Refusals.{e001, e002, f401, h102, x201}
use Rattle.faim_message.specs.Forms.{permitted}
use Rattle.faim_tags.specs.Layouts.{row_of}
use Rattle.host_ledger.specs.declared.config.Config.{Config}
use Rattle.host_ledger.specs.declared.entries.Entry.{Entry}
use Rattle.host_ledger.specs.declared.entries.Entry.TheVariants.{Posted, Roll}
use Rattle.link_frames.specs.declared.frame.FrameKind.{FrameKind}
use Rattle.link_frames.specs.Frames.{Content as Frame}
use Rattle.faim_model.specs.declared.decisions.HostOutcome.TheVariants.{Recorded, Known, TurnedAway, Retrieved, Rolled, NotLater, Strange}
use Rattle.faim_model.specs.Sending.{resume_frames}
use Rattle.faim_model.specs.Steps.{HostStep, host_step}
use Rattle.faim_model.specs.Landing.{landed}
use Rattle.faim_model.specs.Sessions.{Arrival, IsArrival, entries_after, recent_after, session_frames}

abbrev alpha_line : List ℕ
alpha_line = codes "BANKA001"

abbrev beta_line : List ℕ
beta_line = codes "BANKB001"

-- a test host on 2024-01-02
abbrev host : Config
host = record {
  env = 84;
  date = 8767;
  customer = 1110;
  bank = 1080;
  accounts = record { aba = codes "021000021"; endpoint = alpha_line; opening = pos 1000000; floor = pos 0 }
      ∷ record { aba = codes "121042882"; endpoint = beta_line; opening = pos 0; floor = pos 0 } ∷ [];
}

-- half past nine of that day
abbrev morning : ℕ
morning = 12_625_050

-- the first message of ALPHA BANK, with a mark and an amount in cents
abbrev message : List ℕ → List ℕ → List ℕ
message mark amount =
    codes "{1500}30USERREQ1T" ++ mark ++ codes "{1510}1000{1520}20240102BANKA001000001{2000}" ++ amount
    ++ codes "{3100}021000021ALPHA BANK*{3400}121042882BETA BANK*{3600}BTR"

abbrev first : List ℕ
first = message (codes " ") (codes "000000150000")

abbrev imad : Imad
imad = record { date = 8767; source = alpha_line; seq = 1 }

abbrev head : ℕ → Head
head amount = record { imad = imad; sender = codes "021000021"; receiver = codes "121042882"; code = codes "BTR"; kind = 10; sub = 0; amount = amount }

-- frames from a line, and to the two lines
abbrev from_line : FrameKind → List ℕ → List ℕ → Frame
from_line kind line payload = record { kind = kind; endpoint = line; payload = payload }

abbrev submits : List ℕ → List ℕ → Frame
submits line text = from_line FrameKind.Submit line text

abbrev rolls : List ℕ → Frame
rolls date = from_line FrameKind.Roll (codes "OPERATOR") date

-- it is taken: its acknowledgement, and its output
abbrev paid : Entry
paid = Posted (head 150000) first false morning (Taken beta_line 1)

abbrev acked : List ℕ → Frame
acked mark =
    from_line FrameKind.Ack alpha_line (codes "{1100}30T" ++ mark ++ codes "2{1110}01020930FAIM{1120}20240102BANKB00100000101020930FAIM{1520}20240102BANKA001000001")

abbrev given : List ℕ → Frame
given mark =
    from_line FrameKind.Output beta_line (codes "{1100}30T" ++ mark ++ codes "N{1110}01020930FAIM{1120}20240102BANKB00100000101020930FAIM" ++ first)

taken : host_step host [] (submits alpha_line first) morning
    ≡ record { adds = Some paid; sends = acked (codes " ") ∷ given (codes " ") ∷ []; outcome = Recorded imad (Taken beta_line 1) }
unfolding date_from date_in_year date_text padded days_of_months days_of_years row_of permitted
taken = refl

-- submitted again, with either mark and later, it is known: its acknowledgement alone, marked P
known : host_step host (paid ∷ []) (submits alpha_line first) (morning + 60)
    ≡ record { adds = None; sends = acked (codes "P") ∷ []; outcome = Known imad (Taken beta_line 1) }
unfolding date_from date_in_year date_text padded days_of_months days_of_years row_of permitted
known = refl

known_resent : host_step host (paid ∷ []) (submits alpha_line (message (codes "P") (codes "000000150000"))) (morning + 60)
    ≡ host_step host (paid ∷ []) (submits alpha_line first) (morning + 60)
unfolding date_from date_in_year date_text padded days_of_months days_of_years row_of permitted
known_resent = refl

-- a cent more than there is: its acknowledgement alone
refused : host_step host [] (submits alpha_line (message (codes " ") (codes "000001000001"))) morning
    ≡ record {
      adds = Some (Posted (head 1000001) (message (codes " ") (codes "000001000001")) false morning (Refused f401));
      sends = from_line FrameKind.Ack alpha_line (codes "{1100}30T 3{1110}01020930FAIM{1130}F401BALANCE BELOW FLOOR*{1520}20240102BANKA001000001") ∷ [];
      outcome = Recorded imad (Refused f401);
    }
unfolding date_from date_in_year date_text padded days_of_months days_of_years row_of permitted
refused = refl

-- what is turned away: another text, another line, the operator's too, no message, and no identifier
abbrev turned : List ℕ → List ℕ → List ℕ → List Frame
turned line why identifier = from_line FrameKind.Ack line (codes "{1100}30T 3{1110}01020930FAIM{1130}" ++ why ++ identifier) ∷ []

other_text : host_step host (paid ∷ []) (submits alpha_line (message (codes " ") (codes "000000150001"))) 0
    ≡ record { adds = None; sends = turned alpha_line (codes "X201IMAD IS KNOWN WITH OTHER TEXT*") (codes "{1520}20240102BANKA001000001"); outcome = TurnedAway x201 }
unfolding date_from date_in_year date_text padded days_of_months days_of_years row_of permitted
other_text = refl

other_line : host_step host [] (submits beta_line first) morning
    ≡ record { adds = None; sends = turned beta_line (codes "H102INPUT SOURCE IS NOT THIS LINE*") (codes "{1520}20240102BANKA001000001"); outcome = TurnedAway h102 }
unfolding date_from date_in_year date_text padded days_of_months days_of_years row_of permitted
other_line = refl

operator_line : (host_step host [] (submits (codes "OPERATOR") first) morning).outcome ≡ TurnedAway h102
unfolding days_of_months days_of_years row_of permitted
operator_line = refl

no_message : host_step host [] (submits beta_line (codes "HELLO")) morning
    ≡ record { adds = None; sends = turned beta_line (codes "E001TEXT IS NOT A MESSAGE*") []; outcome = TurnedAway e001 }
unfolding date_from date_in_year date_text padded days_of_months days_of_years row_of permitted
no_message = refl

no_identifier : host_step host []
    (submits alpha_line (codes "{1500}30USERREQ1T {1510}1000{1520}20240230BANKA001000001{2000}000000150000{3100}021000021*{3400}121042882*{3600}BTR")) morning
    ≡ record { adds = None; sends = turned alpha_line (codes "E002IMAD IS NOT VALID*") []; outcome = TurnedAway e002 }
unfolding date_from date_in_year date_text padded days_of_months days_of_years row_of permitted
no_identifier = refl

-- the operator's Roll: the end of the cycle to each line, under the old date with the next number of each
abbrev ended : Entry
ended = Roll (morning + 720) 8768

abbrev end_to : List ℕ → List ℕ → List ℕ → Frame
end_to mark line number =
    from_line FrameKind.Output line (codes "{1100}30T" ++ mark ++ codes "E{1110}01022130FAIM{1120}20240102" ++ line ++ number ++ codes "01022130FAIM{9000}NEXT 20240103*")

rolled : host_step host (paid ∷ []) (rolls (codes "20240103")) (morning + 720)
    ≡ record {
      adds = Some ended;
      sends = end_to (codes " ") alpha_line (codes "000001") ∷ end_to (codes " ") beta_line (codes "000002") ∷ [];
      outcome = Rolled 8768;
    }
unfolding date_from date_in_year date_text padded days_of_months days_of_years row_of permitted
rolled = refl

-- to the same date again, and to an earlier one: nothing
not_later : host_step host (ended ∷ paid ∷ []) (rolls (codes "20240103")) (morning + 721)
    ≡ record { adds = None; sends = []; outcome = NotLater 8768 }
unfolding days_of_months days_of_years
not_later = refl

earlier : (host_step host (ended ∷ paid ∷ []) (rolls (codes "20000101")) (morning + 721)).outcome ≡ NotLater 8768
unfolding days_of_months days_of_years
earlier = refl

-- what a host doesn't take: a Roll from a bank's line, one to no date, or to more than a date; what isn't for a host
bank_rolls : (host_step host [] (from_line FrameKind.Roll alpha_line (codes "20240103")) morning).outcome ≡ Strange
unfolding days_of_months days_of_years
bank_rolls = refl

no_date : (host_step host [] (rolls (codes "20240230")) morning).outcome ≡ Strange
unfolding days_of_months days_of_years
no_date = refl

long_date : (host_step host [] (rolls (codes "202401030")) morning).outcome ≡ Strange
unfolding days_of_months days_of_years
long_date = refl

not_for_a_host : ((host_step host [] (from_line FrameKind.Ack alpha_line first) morning).outcome ≡ Strange)
    × ((host_step host [] (from_line FrameKind.Output alpha_line first) morning).outcome ≡ Strange)
    × ((host_step host [] (from_line FrameKind.Draft alpha_line first) morning).outcome ≡ Strange)
    × ((host_step host [] (from_line FrameKind.Tick alpha_line first) morning).outcome ≡ Strange)
not_for_a_host = (refl, refl, refl, refl)

-- a line gets its outputs again from a position on, marked R, and what is no position asks for nothing
abbrev retrieves : List ℕ → List ℕ → Frame
retrieves line position = from_line FrameKind.Retrieve line position

retrieved : host_step host (paid ∷ []) (retrieves beta_line (codes "20240102000001")) morning
    ≡ record { adds = None; sends = given (codes "R") ∷ []; outcome = Retrieved 1 }
unfolding date_from date_in_year date_text padded days_of_months days_of_years row_of permitted
retrieved = refl

from_the_next : host_step host (paid ∷ []) (retrieves beta_line (codes "20240102000002")) morning
    ≡ record { adds = None; sends = []; outcome = Retrieved 0 }
unfolding days_of_months days_of_years
from_the_next = refl

short_position : (host_step host (paid ∷ []) (retrieves beta_line (codes "2024010200001")) morning).outcome ≡ Strange
unfolding days_of_months days_of_years
short_position = refl

-- a restart sends what the last entry has again, marked P; of two the older first
sent_again : resume_frames host (paid ∷ []) 1 ≡ acked (codes "P") ∷ given (codes "P") ∷ []
unfolding date_from date_in_year date_text padded days_of_months days_of_years row_of permitted
sent_again = refl

end_sent_again : resume_frames host (ended ∷ paid ∷ []) 1
    ≡ end_to (codes "P") alpha_line (codes "000001") ∷ end_to (codes "P") beta_line (codes "000002") ∷ []
unfolding date_from date_in_year date_text padded days_of_months days_of_years row_of permitted
end_sent_again = refl

both_sent_again : resume_frames host (ended ∷ paid ∷ []) 2 ≡ resume_frames host (paid ∷ []) 1 ++ resume_frames host (ended ∷ paid ∷ []) 1
both_sent_again = refl

-- a stop between the two frames, and one before the entry was kept
abbrev step : HostStep
step = host_step host [] (submits alpha_line first) morning

stopped_between : landed [] [] step true 1 ≡ record { entries = paid ∷ []; frames = acked (codes " ") ∷ [] }
unfolding date_from date_in_year date_text padded days_of_months days_of_years row_of permitted
stopped_between = refl

stopped_before : landed [] [] step false 0 ≡ record { entries = []; frames = [] }
stopped_before = refl

-- a session: the message, the same again, the end of the cycle and a Roll that comes too late
abbrev day : List Arrival
day = record { frame = submits alpha_line first; reading = morning }
    ∷ record { frame = submits alpha_line first; reading = morning + 60 }
    ∷ record { frame = rolls (codes "20240103"); reading = morning + 720 }
    ∷ record { frame = rolls (codes "20240103"); reading = morning + 721 } ∷ []

day_arrives : AllByRecursion IsArrival day
day_arrives = (
  record { sound = record { endpoint = (refl, refl); payload = lit≤ tt }; timed = lit≤ tt },
  (
    record { sound = record { endpoint = (refl, refl); payload = lit≤ tt }; timed = lit≤ tt },
    (
      record { sound = record { endpoint = (refl, refl); payload = lit≤ tt }; timed = lit≤ tt },
      (record { sound = record { endpoint = (refl, refl); payload = lit≤ tt }; timed = lit≤ tt }, tt),
    ),
  ),
)

day_entries : entries_after host [] day ≡ ended ∷ paid ∷ []
unfolding days_of_months days_of_years row_of permitted
day_entries = refl

day_frames : session_frames host [] 0 day
    ≡ acked (codes " ") ∷ given (codes " ") ∷ acked (codes "P") ∷ end_to (codes " ") alpha_line (codes "000001") ∷ end_to (codes " ") beta_line (codes "000002") ∷ []
unfolding date_from date_in_year date_text padded days_of_months days_of_years row_of permitted
day_frames = refl

day_recent : recent_after host [] 0 day ≡ 1
unfolding days_of_months days_of_years row_of permitted
day_recent = refl
