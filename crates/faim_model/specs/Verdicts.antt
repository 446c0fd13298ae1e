-- The verdict on a text that comes from a line at a moment.
use Rattle.std.specs.Prelude.{ℕ, ◌+◌, ◌*◌, ◌==◌, nat_le, Bool, false, not, ◌&&◌, List, [], ◌∷◌, length, codes, bytes_eq, if◌then◌else◌, Option, Some, None, is_none}
use Rattle.std.specs.Option.{option_map_or}
use Rattle.faim_base.specs.declared.ids.Imad.{Imad}
use Rattle.faim_base.specs.declared.judgement.Head.{Head}
use Rattle.faim_base.specs.declared.judgement.Reject.{Reject}
use Rattle.faim_base.specs.declared.judgement.Verdict.{Verdict}
use Rattle.faim_base.specs.declared.judgement.Verdict.TheVariants.{Taken, Refused}
use Rattle.faim_base.specs.Refusals.{e001, e002, e161, e162, f401, h101, h102, i501, w301, w302, x201}
use Rattle.host_ledger.specs.declared.config.Config.{Config}
use Rattle.host_ledger.specs.declared.entries.Entry.{Entry}
use Rattle.host_ledger.specs.declared.entries.Entry.TheVariants.{Posted, Roll}
use Rattle.faim_model.specs.declared.decisions.Decision.{Decision}
use Rattle.faim_model.specs.declared.decisions.Decision.TheVariants.{New, Known, Differs, WrongSource}
use Rattle.host_ledger.specs.Accounts.{account_of, endpoint_of, is_served_at}
use Rattle.host_ledger.specs.Sums.{cycle, is_below_floor}
use Rattle.faim_model.specs.Outputs.{sent_in_cycle}
use Rattle.faim_model.specs.Submissions.{Submission, Strange, Unnumbered, Numbered, submission}

-- the same date, source and number
abbrev pub same_imad : Imad → Imad → Bool
same_imad a b = (a.date == b.date) && (bytes_eq a.source b.source && (a.seq == b.seq))

-- the entry posts a message with this IMAD; with this IMAD and this body
abbrev pub has_imad : Imad → Entry → Bool
has_imad imad (Posted h body resent moment v) = same_imad h.imad imad
has_imad imad (Roll moment date) = false

abbrev pub has_body : Imad → List ℕ → Entry → Bool
has_body imad text (Posted h body resent moment v) = same_imad h.imad imad && bytes_eq body text
has_body imad text (Roll moment date) = false

-- the place of an entry that passes a test, the oldest entry being at 0
abbrev pub place_of : (Entry → Bool) → List Entry → Option ℕ
place_of p [] = None
place_of p (x ∷ older) = if p x then Some (length older) else place_of p older

-- customers' transfers have a cutoff of their own
abbrev pub is_customer : Head → Bool
is_customer h = bytes_eq h.code (codes "CTR")

-- at or after a cutoff of the present cycle date, in minutes of that day
abbrev pub is_past : Config → List Entry → ℕ → ℕ → Bool
is_past c es cutoff t = nat_le (1440 * cycle c es + cutoff) t

-- a new refusal
abbrev pub refused : Reject → Decision
refused why = New (Refused why)

-- a message that is new: the first of these that holds, or it is taken and gets the next number of the receiver's endpoint
abbrev pub judged_new : Config → List Entry → List ℕ → ℕ → Head → Option Reject → Decision
judged_new c es line t h failed =
    if not (h.imad.date == cycle c es) then refused h101
    else option_map_or refused failed (
    if not (is_served_at c h.sender line) then refused e161
    else if is_none (account_of c h.receiver) then refused e162
    else if is_customer h && is_past c es c.customer t then refused w301
    else if not (is_customer h) && is_past c es c.bank t then refused w302
    else if is_below_floor c es h then refused f401
    else if nat_le 999_998 (sent_in_cycle c es (endpoint_of c h.receiver)) then refused i501
    else New (Taken (endpoint_of c h.receiver) (sent_in_cycle c es (endpoint_of c h.receiver) + 1)))

-- the decision on a message with this head and body, that fails this edit first or none
abbrev pub judged : Config → List Entry → List ℕ → ℕ → Head → List ℕ → Option Reject → Decision
judged c es line t h body failed =
    if not (bytes_eq h.imad.source line) then WrongSource
    else option_map_or Known (place_of (has_body h.imad body) es)
    (option_map_or Differs (place_of (has_imad h.imad) es) (judged_new c es line t h failed))

-- a verdict that is recorded now, one that stands at a place, or a refusal that isn't recorded
pub data Answer : Type 0 where
  Now : Verdict → Answer
  Before : ℕ → Answer
  Turned : Reject → Answer

-- what a decision says of the verdict
abbrev pub answer_of : Decision → Answer
answer_of (New v) = Now v
answer_of (Known place) = Before place
answer_of (Differs place) = Turned x201
answer_of WrongSource = Turned h102

-- the verdict on a submission from a line at an effective moment
abbrev pub verdict_on : Config → List Entry → List ℕ → ℕ → Submission → Answer
verdict_on c es line t Strange = Turned e001
verdict_on c es line t Unnumbered = Turned e002
verdict_on c es line t (Numbered h body mark failed) = answer_of (judged c es line t h body failed)

-- the verdict on a text
abbrev pub verdict : Config → List Entry → List ℕ → ℕ → List ℕ → Answer
verdict c es line t text = verdict_on c es line t (submission c.env text)
