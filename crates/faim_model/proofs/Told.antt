-- What a turn tells, by what its text is and by how its message was decided on.
use Rattle.std.proofs.Common.{◌≡◌, ◌≢◌, refl, ◌∙◌, ap, ℕ, ◌+◌, ◌==◌, ◌&&◌, nat_le, Bool, true, false, not, List, Option, Some, None, is_none, Result, Ok, Err, if◌then◌else◌}
use Rattle.std.specs.Option.{option_map_or}
use Rattle.std.specs.Str.{bytes_eq}
use Rattle.faim_base.specs.declared.ids.IdFault.{IdFault}
use Rattle.faim_base.specs.declared.judgement.Head.{Head}
use Rattle.faim_base.specs.declared.judgement.Reject.{Reject}
use Rattle.faim_base.specs.declared.judgement.Verdict.{Verdict}
use Rattle.faim_base.specs.declared.judgement.Verdict.TheVariants.{Taken, Refused}
use Rattle.faim_base.specs.Refusals.{e161, e162, f401, h101, i501, w301, w302}
use Rattle.faim_message.specs.declared.form.Form.TheVariants.{Input}
use Rattle.faim_message.specs.Spelling.{Content, Spells}
use Rattle.faim_message.specs.Decoded.{decoded}
use Rattle.faim_message.specs.Heads.{head_of}
use Rattle.faim_message.proofs.Decodings.{decoded_spelled, none_spelled, spelled_as}
use Rattle.host_ledger.specs.declared.config.Config.{Config}
use Rattle.host_ledger.specs.declared.entries.Entry.{Entry}
use Rattle.host_ledger.specs.Accounts.{account_of, endpoint_of, is_served_at}
use Rattle.faim_model.specs.declared.decisions.Decision.{Decision}
use Rattle.faim_model.specs.declared.decisions.Decision.TheVariants.{New, Known, Differs, WrongSource}
use Rattle.host_ledger.specs.Sums.{cycle, is_below_floor}
use Rattle.faim_model.specs.Outputs.{sent_in_cycle}
use Rattle.faim_model.specs.Submissions.{Strange, Unnumbered, Numbered, failed_edit, submission, submitted_as, with_head}
use Rattle.faim_model.specs.Verdicts.{has_body, has_imad, is_customer, is_past, judged, judged_new, place_of, refused}

-- what a text is
pub data TextCase (env : ℕ) (text : List ℕ) : Type 0 where
  NoInput : ((m : Content) → Spells m text → m.form ≢ Input) → submission env text ≡ Strange → TextCase env text
  NoImad : (m : Content) → (fault : IdFault) → Spells m text → m.form ≡ Input → head_of m ≡ Err fault → submission env text ≡ Unnumbered → TextCase env text
  WithImad : (h : Head) → (body : List ℕ) → (mark : ℕ) → (failed : Option Reject) → submission env text ≡ Numbered h body mark failed → TextCase env text

input_case : (env : ℕ) (text : List ℕ) (m : Content) (r : Result Head IdFault) → decoded Input text ≡ Some m → head_of m ≡ r → TextCase env text
input_case env text m (Err fault) found head =
    let s = decoded_spelled Input text m found in
    NoImad m fault s.0 s.1 head (ap (submitted_as env) found ∙ ap (with_head env m) head)
input_case env text m (Ok h) found head = WithImad h _ _ (failed_edit env m) (ap (submitted_as env) found ∙ ap (with_head env m) head)

decoded_case : (env : ℕ) (text : List ℕ) (found : Option Content) → decoded Input text ≡ found → TextCase env text
decoded_case env text None found = NoInput (none_spelled Input text found) (ap (submitted_as env) found)
decoded_case env text (Some m) found = input_case env text m (head_of m) found refl

pub text_case_of : (env : ℕ) (text : List ℕ) → TextCase env text
text_case_of env text = decoded_case env text (decoded Input text) refl

pub unnumbered_as : (env : ℕ) (text : List ℕ) (m : Content) (fault : IdFault) → Spells m text → m.form ≡ Input → head_of m ≡ Err fault
    → submission env text ≡ Unnumbered
unnumbered_as env text m fault spells form head = ap (submitted_as env) (spelled_as Input text m spells form) ∙ ap (with_head env m) head

-- how a message is decided on: not on its source's line; with an entry's identifier and body; with its identifier alone; new
pub data DecisionCase (own : Bool) (known differs : Option ℕ) (d : Decision) : Type 0 where
  Foreign : own ≡ false → d ≡ WrongSource → DecisionCase own known differs d
  Repeated : own ≡ true → (place : ℕ) → known ≡ Some place → d ≡ Known place → DecisionCase own known differs d
  Other : own ≡ true → known ≡ None → (place : ℕ) → differs ≡ Some place → d ≡ Differs place → DecisionCase own known differs d
  Fresh : own ≡ true → known ≡ None → differs ≡ None → (v : Verdict) → d ≡ New v → DecisionCase own known differs d

decision_by : (own : Bool) (known differs : Option ℕ) (rest : Decision) (v : Verdict) → rest ≡ New v
    → DecisionCase own known differs (if not own then WrongSource else option_map_or Known known (option_map_or Differs differs rest))
decision_by false known differs rest v new = Foreign refl refl
decision_by true (Some place) differs rest v new = Repeated refl place refl refl
decision_by true None (Some place) rest v new = Other refl refl place refl refl
decision_by true None None rest v new = Fresh refl refl refl v new

-- a message that is new gets a verdict
verdict_case : (current : Bool) (failed : Option Reject) (served stranger customer_late bank_late low full : Bool) (taken : Verdict)
    → (v : Verdict) × ((if not current then refused h101
    else option_map_or refused failed (
    if not served then refused e161
    else if stranger then refused e162
    else if customer_late then refused w301
    else if bank_late then refused w302
    else if low then refused f401
    else if full then refused i501
    else New taken)) ≡ New v)
verdict_case false failed served stranger customer_late bank_late low full taken = (Refused h101, refl)
verdict_case true (Some why) served stranger customer_late bank_late low full taken = (Refused why, refl)
verdict_case true None false stranger customer_late bank_late low full taken = (Refused e161, refl)
verdict_case true None true true customer_late bank_late low full taken = (Refused e162, refl)
verdict_case true None true false true bank_late low full taken = (Refused w301, refl)
verdict_case true None true false false true low full taken = (Refused w302, refl)
verdict_case true None true false false false true full taken = (Refused f401, refl)
verdict_case true None true false false false false true taken = (Refused i501, refl)
verdict_case true None true false false false false false taken = (taken, refl)

new_verdict : (c : Config) (es : List Entry) (line : List ℕ) (t : ℕ) (h : Head) (failed : Option Reject)
    → (v : Verdict) × (judged_new c es line t h failed ≡ New v)
new_verdict c es line t h failed =
    verdict_case (h.imad.date == cycle c es) failed (is_served_at c h.sender line) (is_none (account_of c h.receiver))
    (is_customer h && is_past c es c.customer t) (not (is_customer h) && is_past c es c.bank t) (is_below_floor c es h)
    (nat_le 999_998 (sent_in_cycle c es (endpoint_of c h.receiver))) (Taken (endpoint_of c h.receiver) (sent_in_cycle c es (endpoint_of c h.receiver) + 1))

pub decision_case_of : (c : Config) (es : List Entry) (line : List ℕ) (t : ℕ) (h : Head) (body : List ℕ) (failed : Option Reject)
    → DecisionCase (bytes_eq h.imad.source line) (place_of (has_body h.imad body) es) (place_of (has_imad h.imad) es) (judged c es line t h body failed)
decision_case_of c es line t h body failed =
    let new = new_verdict c es line t h failed in
    decision_by (bytes_eq h.imad.source line) (place_of (has_body h.imad body) es) (place_of (has_imad h.imad) es) (judged_new c es line t h failed) new.0 new.1
