-- A day of two banks: ALPHA BANK on the line BANKA001 pays BETA BANK on the line BANKB001.
use Rattle.std.specs.Prelude.{◌≡◌, refl, ℕ, ◌+◌, ◌-◌, ◌<◌, ◌≤◌, true, false, List, [], ◌∷◌, ◌++◌, length, filter, codes, Some, None, ℤ, pos, negsuc}
use Rattle.std.proofs.Common.{⊎_elim, inl, lit≤, arith}
use Rattle.std.specs.List.{IsDistinct}
use Rattle.faim_base.specs.declared.judgement.Head.{Head}
use Rattle.faim_base.specs.declared.judgement.Verdict.TheVariants.{Taken, Refused}
use Rattle.faim_base.specs.Calendar.{days_of_months, days_of_years}
use Rattle.faim_base.specs.Refusals.{e001, e002, e161, e162, edit, f401, h101, h102, i501, w301, w302, x201}
use Rattle.faim_message.specs.Forms.{permitted}
use Rattle.faim_tags.specs.Layouts.{row_of}
use Rattle.host_ledger.specs.declared.config.Account.{Account}
use Rattle.host_ledger.specs.declared.config.Config.{Config}
use Rattle.host_ledger.specs.Soundness.{IsConfig, operator}
use Rattle.host_ledger.specs.declared.entries.Entry.{Entry}
use Rattle.host_ledger.specs.declared.entries.Entry.TheVariants.{Posted, Roll}
use Rattle.faim_model.specs.declared.decisions.Decision.TheVariants.{New}
use Rattle.faim_model.specs.declared.decisions.HostOutcome.TheVariants.{Recorded}
use Rattle.host_ledger.specs.Lists.{total}
use Rattle.host_ledger.specs.Sums.{balance, cycle, moves_money}
use Rattle.faim_model.specs.Outputs.{outputs, retrieved, sent_in_cycle}
use Rattle.faim_model.specs.Lawful.{Follows, IsMark, RollFollows, one_to}
use Rattle.faim_model.specs.Submissions.{Submission, Strange, Unnumbered, Numbered, submission}
use Rattle.faim_model.specs.Verdicts.{Before, Now, Turned, judged_new, verdict_on, refused}
use Rattle.faim_model.specs.Turns.{effective, turn_at}
use Rattle.faim_model.proofs.Imads.{bytes_differ}

abbrev alpha : List ℕ
alpha = codes "021000021"

abbrev beta : List ℕ
beta = codes "121042882"

abbrev alpha_line : List ℕ
alpha_line = codes "BANKA001"

abbrev beta_line : List ℕ
beta_line = codes "BANKB001"

-- the host on 2024-01-02, with an opening balance and a floor of ALPHA BANK
abbrev host : ℤ → ℤ → Config
host opening floor = record {
  env = 84;
  date = 8767;
  customer = 1440;
  bank = 1440;
  accounts = record { aba = alpha; endpoint = alpha_line; opening = opening; floor = floor }
      ∷ record { aba = beta; endpoint = beta_line; opening = pos 0; floor = pos 0 } ∷ [];
}

abbrev usual : Config
usual = host (pos 1000000) (pos 0)

-- it is a sound configuration
usual_sound : IsConfig usual
unfolding IsDistinct
usual_sound = record {
  env = inl refl;
  date = lit≤ tt;
  customer = lit≤ tt;
  bank = lit≤ tt;
  some = lit≤ tt;
  accounts = record {
    each = (
      record { aba = (refl, refl); check = refl; endpoint = (refl, refl); not_operator = bytes_differ alpha_line operator refl; opening = lit≤ tt; floor = lit≤ tt },
      (record { aba = (refl, refl); check = refl; endpoint = (refl, refl); not_operator = bytes_differ beta_line operator refl; opening = lit≤ tt; floor = lit≤ tt }, tt),
    );
    most = lit≤ tt;
    distinct = ((refl, tt), (tt, tt));
    endpoints = lit≤ tt;
  };
}

-- midnight of that day
abbrev midnight : ℕ
midnight = 12624480

-- a payment from ALPHA BANK, by its mark, its date, its amount in cents and its receiver
abbrev payment : ℕ → List ℕ → List ℕ → List ℕ → List ℕ
payment mark date amount receiver =
    codes "{1500}30USERREQ1T" ++ (mark ∷ codes "{1510}1000{1520}") ++ date ++ codes "BANKA001000001{2000}" ++ amount
    ++ codes "{3100}021000021ALPHA BANK*{3400}" ++ receiver ++ codes "BETA BANK*{3600}BTR"

abbrev today : List ℕ
today = codes "20240102"

abbrev first : List ℕ
first = codes "{1500}30USERREQ1T {1510}1000{1520}20240102BANKA001000001{2000}000000150000{3100}021000021ALPHA BANK*{3400}121042882BETA BANK*{3600}BTR"

first_is_payment : payment 32 today (codes "000000150000") beta ≡ first
first_is_payment = refl

first_len : length first ≡ 134
first_len = refl

abbrev first_head : Head
first_head = record {
  imad = record { date = 8767; source = alpha_line; seq = 1 };
  sender = alpha;
  receiver = beta;
  code = codes "BTR";
  kind = 10;
  sub = 0;
  amount = 150000;
}

-- what texts are: a message, with either mark and with one that the table refuses; one on a production line; one whose
-- date is none; and no message
first_is : submission 84 first ≡ Numbered first_head first 32 None
unfolding days_of_months days_of_years row_of permitted
first_is = refl

resent_is : submission 84 (payment 80 today (codes "000000150000") beta) ≡ Numbered first_head first 80 None
unfolding days_of_months days_of_years row_of permitted
resent_is = refl

other_mark_is : submission 84 (payment 81 today (codes "000000150000") beta) ≡ Numbered first_head first 81 (Some (edit 103))
unfolding days_of_months days_of_years row_of permitted
other_mark_is = refl

other_line_is : submission 80 first ≡ Numbered first_head first 32 (Some (edit 102))
unfolding days_of_months days_of_years row_of permitted
other_line_is = refl

no_such_day : submission 84 (payment 32 (codes "20240230") (codes "000000150000") beta) ≡ Unnumbered
unfolding days_of_months days_of_years row_of permitted
no_such_day = refl

no_message : submission 84 (codes "HELLO") ≡ Strange
unfolding row_of permitted
no_message = refl

-- the payment, with a mark and a failed edit
abbrev pays : Head → Submission
pays h = Numbered h first 32 None

first_taken : verdict_on usual [] alpha_line midnight (pays first_head) ≡ Now (Taken beta_line 1)
first_taken = refl

-- the list after it
abbrev posted : List Entry
posted = Posted first_head first false midnight (Taken beta_line 1) ∷ []

first_recorded : turn_at usual [] alpha_line midnight (pays first_head)
    ≡ record { adds = Some (Posted first_head first false midnight (Taken beta_line 1)); outcome = Recorded first_head.imad (Taken beta_line 1) }
first_recorded = refl

-- an entry tells that its first submission was marked P, and of no other mark
resent_recorded : (turn_at usual [] alpha_line midnight (Numbered first_head first 80 None)).adds
    ≡ Some (Posted first_head first true midnight (Taken beta_line 1))
resent_recorded = refl

other_mark_recorded : (turn_at usual [] alpha_line midnight (Numbered first_head first 81 (Some (edit 103)))).adds
    ≡ Some (Posted first_head first false midnight (Refused (edit 103)))
other_mark_recorded = refl

alpha_has_paid : balance usual posted alpha ≡ pos 850000
alpha_has_paid = refl

beta_has_received : balance usual posted beta ≡ pos 150000
beta_has_received = refl

money_stays : total (λ (a : Account). balance usual posted a.aba) usual.accounts ≡ pos 1000000
money_stays = refl

-- a second message has the next number
second_taken : verdict_on usual posted alpha_line midnight (pays (record first_head { imad = record { date = 8767; source = alpha_line; seq = 2 } }))
    ≡ Now (Taken beta_line 2)
second_taken = refl

-- a reading of the clock before the newest entry counts as that entry's moment, and a later one as it is
clock_too_early : effective posted 3 ≡ midnight
clock_too_early = refl

clock_later : effective posted (midnight + 1) ≡ midnight + 1
clock_later = refl

-- an output is given from its own position on
from_its_own : retrieved usual posted beta_line (record { date = 8767; seq = 1 }) ≡ outputs usual posted beta_line
from_its_own = refl

from_the_next : retrieved usual posted beta_line (record { date = 8767; seq = 2 }) ≡ []
from_the_next = refl

from_the_day_before : retrieved usual posted beta_line (record { date = 8766; seq = 999_999 }) ≡ outputs usual posted beta_line
from_the_day_before = refl

-- P tells that the first submission was a repeat, and only P does
blank_is_no_repeat : IsMark true 32 → ⊥
blank_is_no_repeat repeated = omega (arith, repeated)

repeat_is_told : IsMark false 80 → ⊥
repeat_is_told marked = ⊎_elim (λ (blank : 80 ≡ 32). omega arith) (λ (other : 80 ≡ 88). omega arith) marked

beta_gets_first : outputs usual posted beta_line
    ≡ record { at = record { date = 8767; seq = 1 }; place = 0; entry = Posted first_head first false midnight (Taken beta_line 1) } ∷ []
beta_gets_first = refl

-- the end of the cycle is an output too, with the next number of the cycle that it ends
end_of_cycle : outputs usual (Roll (midnight + 1439) 8768 ∷ posted) beta_line
    ≡ outputs usual posted beta_line ++ record { at = record { date = 8767; seq = 2 }; place = 1; entry = Roll (midnight + 1439) 8768 } ∷ []
end_of_cycle = refl

next_cycle : sent_in_cycle usual (Roll (midnight + 1439) 8768 ∷ posted) beta_line ≡ 0
next_cycle = refl

-- a Roll may go on to a later date, not to the same one, and not before the newest entry
abbrev rolled : List Entry
rolled = Roll (midnight + 1439) 8768 ∷ posted

later_date_follows : Follows usual posted (Roll (midnight + 1439) 8768)
later_date_follows = record { in_time = lit≤ tt; later = lit≤ tt; day = lit≤ tt }

same_date_follows_not : RollFollows usual posted midnight 8767 → ⊥
same_date_follows_not f = let later : 8767 < 8767 = f.later in omega (arith, later)

too_early_follows_not : RollFollows usual posted (midnight - 1) 8768 → ⊥
too_early_follows_not f = let in_time : midnight ≤ midnight - 1 = f.in_time in omega (arith, in_time)

-- balances carry over it; a message of the date that ended is late, and one of the new date has number 1
balance_carries : balance usual rolled alpha ≡ pos 850000
balance_carries = refl

old_date : verdict_on usual rolled alpha_line (midnight + 1440) (pays (record first_head { imad = record { date = 8767; source = alpha_line; seq = 2 } }))
    ≡ Now (Refused h101)
old_date = refl

new_date : verdict_on usual rolled alpha_line (midnight + 1440) (pays (record first_head { imad = record { date = 8768; source = alpha_line; seq = 1 } }))
    ≡ Now (Taken beta_line 1)
new_date = refl

known_after_roll : verdict_on usual rolled alpha_line (midnight + 1440) (pays first_head) ≡ Before 0
known_after_roll = refl

-- the whole order of verdicts, each at its edge
strange_turned : verdict_on usual [] alpha_line midnight Strange ≡ Turned e001
strange_turned = refl

unnumbered_turned : verdict_on usual [] alpha_line midnight Unnumbered ≡ Turned e002
unnumbered_turned = refl

other_line : verdict_on usual posted beta_line midnight (pays first_head) ≡ Turned h102
other_line = refl

first_again : verdict_on usual posted alpha_line midnight (pays first_head) ≡ Before 0
first_again = refl

first_resent : verdict_on usual posted alpha_line midnight (Numbered first_head first 80 None) ≡ Before 0
first_resent = refl

other_text : verdict_on usual posted alpha_line midnight (Numbered first_head (first ++ 10 ∷ []) 32 None) ≡ Turned x201
other_text = refl

-- the date before the table, and the table before the accounts
date_first : verdict_on usual [] alpha_line midnight
    (Numbered (record first_head { imad = record { date = 8768; source = alpha_line; seq = 1 } }) first 32 (Some (edit 107))) ≡ Now (Refused h101)
date_first = refl

table_first : verdict_on usual [] alpha_line midnight (Numbered (record first_head { sender = beta }) first 32 (Some (edit 107))) ≡ Now (Refused (edit 107))
table_first = refl

no_sender : verdict_on usual [] alpha_line midnight (pays (record first_head { sender = beta; receiver = codes "231380104" })) ≡ Now (Refused e161)
no_sender = refl

no_receiver : verdict_on usual [] alpha_line midnight (pays (record first_head { receiver = codes "231380104" })) ≡ Now (Refused e162)
no_receiver = refl

-- the banks' cutoff is the first minute that is too late, and the customers' cutoff isn't theirs
at_cutoff : verdict_on (record usual { bank = 1; customer = 0 }) [] alpha_line (midnight + 1) (pays first_head) ≡ Now (Refused w302)
at_cutoff = refl

before_cutoff : verdict_on (record usual { bank = 1; customer = 0 }) [] alpha_line midnight (pays first_head) ≡ Now (Taken beta_line 1)
before_cutoff = refl

transfer_at_cutoff : verdict_on (record usual { bank = 0; customer = 1 }) [] alpha_line (midnight + 1) (pays (record first_head { code = codes "CTR" }))
    ≡ Now (Refused w301)
transfer_at_cutoff = refl

transfer_before_cutoff : verdict_on (record usual { bank = 0; customer = 1 }) [] alpha_line midnight (pays (record first_head { code = codes "CTR" }))
    ≡ Now (Taken beta_line 1)
transfer_before_cutoff = refl

cent_too_little : verdict_on (host (pos 149999) (pos 0)) [] alpha_line midnight (pays first_head) ≡ Now (Refused f401)
cent_too_little = refl

down_to_floor : verdict_on (host (pos 0) (negsuc 149999)) [] alpha_line midnight (pays first_head) ≡ Now (Taken beta_line 1)
down_to_floor = refl

own_receiver : verdict_on (host (pos 149999) (pos 0)) [] alpha_line midnight (pays (record first_head { receiver = alpha })) ≡ Now (Refused f401)
own_receiver = refl

-- a message that moves no money has no floor
no_money_moved : verdict_on (host (pos 0) (pos 0)) [] alpha_line midnight (pays (record first_head { sub = 31 })) ≡ Now (Taken beta_line 1)
no_money_moved = refl

-- the subtypes that move money
moving : filter (λ (n : ℕ). moves_money (record first_head { sub = n })) (0 ∷ one_to 99) ≡ 0 ∷ 2 ∷ 8 ∷ 32 ∷ []
moving = refl

-- a cycle's last number for a message, and the one after it, which is kept for the end of the cycle
last_number : (es : List Entry) → sent_in_cycle usual es beta_line ≡ 999_997 → balance usual es alpha ≡ pos 1000000 → cycle usual es ≡ 8767
    → judged_new usual es alpha_line midnight first_head None ≡ New (Taken beta_line 999_998)
last_number es sent left today = rw (sent, left, today) refl

numbers_used_up : (es : List Entry) → sent_in_cycle usual es beta_line ≡ 999_998 → balance usual es alpha ≡ pos 1000000 → cycle usual es ≡ 8767
    → judged_new usual es alpha_line midnight first_head None ≡ refused i501
numbers_used_up es sent left today = rw (sent, left, today) refl

-- numbers begin at 1 and end with the last
three_numbers : one_to 3 ≡ 1 ∷ 2 ∷ 3 ∷ []
three_numbers = refl
