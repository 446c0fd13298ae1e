-- A refusal that is kept is one that may be recorded, and one that turns away isn't.
use Rattle.std.proofs.Common.{◌≡◌, refl, sym, ◌∙◌, ap, ℕ, ◌+◌, ◌==◌, ◌&&◌, nat_le, Bool, true, false, not, List, [], ◌∷◌, Option, Some, None, is_none, option_map, if◌then◌else◌}
use Rattle.std.specs.List.{find, list_all}
use Rattle.std.specs.Option.{option_map_or}
use Rattle.std.specs.Str.{bytes_eq}
use Rattle.std.proofs.lemmas.Bool.{and_parts}
use Rattle.faim_base.specs.declared.judgement.Head.{Head}
use Rattle.faim_base.specs.declared.judgement.Reject.{Reject}
use Rattle.faim_base.specs.declared.judgement.Verdict.TheVariants.{Taken, Refused}
use Rattle.faim_base.specs.Refusals.{e161, e162, edit, f401, h101, i501, is_edit_number, is_recorded, w301, w302}
use Rattle.faim_message.specs.Spelling.{Content}
use Rattle.faim_message.specs.Edits.{Edit, edits, first_failed}
use Rattle.host_ledger.specs.declared.config.Config.{Config}
use Rattle.host_ledger.specs.declared.entries.Entry.{Entry}
use Rattle.host_ledger.specs.Accounts.{account_of, endpoint_of, is_served_at}
use Rattle.faim_model.specs.declared.decisions.Decision.{Decision}
use Rattle.faim_model.specs.declared.decisions.Decision.TheVariants.{New, Known, Differs, WrongSource}
use Rattle.host_ledger.specs.Sums.{cycle, is_below_floor}
use Rattle.faim_model.specs.Outputs.{sent_in_cycle}
use Rattle.faim_model.specs.Submissions.{Submission, Strange, Unnumbered, Numbered, failed_edit, submission}
use Rattle.faim_model.specs.Verdicts.{Answer, Now, Before, Turned, answer_of, has_body, has_imad, is_customer, is_past, judged, judged_new, place_of, refused, verdict, verdict_on}
use Rattle.faim_model.proofs.Submitted.{numbered_from}

-- the numbers of the table are those of edits
number_passes : (q : ℕ → Bool) (m : Content) (es : List Edit) → list_all (λ (e : Edit). q e.number) es ≡ true
    → option_map_or q (option_map (λ (e : Edit). e.number) (find (λ (e : Edit). not (e.holds m)) es)) true ≡ true
number_passes q m [] all = refl
number_passes q m (e ∷ es) all =
    let both = and_parts (q e.number) (list_all (λ (f : Edit). q f.number) es) all in
    first_or (not (e.holds m)) both.0 (number_passes q m es both.1)
  where
    first_or : (fails : Bool) → q e.number ≡ true
        → option_map_or q (option_map (λ (f : Edit). f.number) (find (λ (f : Edit). not (f.holds m)) es)) true ≡ true
        → option_map_or q (option_map (λ (f : Edit). f.number) (if fails then Some e else find (λ (f : Edit). not (f.holds m)) es)) true ≡ true
    first_or true here rest = here
    first_or false here rest = rest

edit_kept : (o : Option ℕ) → option_map_or is_edit_number o true ≡ true → option_map_or is_recorded (option_map edit o) true ≡ true
edit_kept None number = refl
edit_kept (Some n) number = rw number refl

pub failed_is_kept : (env : ℕ) (m : Content) → option_map_or is_recorded (failed_edit env m) true ≡ true
failed_is_kept env m = edit_kept (first_failed env m) (number_passes is_edit_number m (edits env) refl)

-- a refusal that a decision records may be recorded
abbrev keeps : Decision → Bool
keeps (New (Refused why)) = is_recorded why
keeps d = true

new_keeps : (current : Bool) (failed : Option Reject) (served stranger customer_late bank_late low full : Bool) (dest : List ℕ) (seq : ℕ)
    → option_map_or is_recorded failed true ≡ true
    → keeps (if not current then refused h101
    else option_map_or refused failed (
    if not served then refused e161
    else if stranger then refused e162
    else if customer_late then refused w301
    else if bank_late then refused w302
    else if low then refused f401
    else if full then refused i501
    else New (Taken dest seq))) ≡ true
new_keeps false failed served stranger customer_late bank_late low full dest seq kept = refl
new_keeps true (Some why) served stranger customer_late bank_late low full dest seq kept = kept
new_keeps true None false stranger customer_late bank_late low full dest seq kept = refl
new_keeps true None true true customer_late bank_late low full dest seq kept = refl
new_keeps true None true false true bank_late low full dest seq kept = refl
new_keeps true None true false false true low full dest seq kept = refl
new_keeps true None true false false false true full dest seq kept = refl
new_keeps true None true false false false false true dest seq kept = refl
new_keeps true None true false false false false false dest seq kept = refl

decision_keeps : (own : Bool) (known differs : Option ℕ) (rest : Decision) → keeps rest ≡ true
    → keeps (if not own then WrongSource else option_map_or Known known (option_map_or Differs differs rest)) ≡ true
decision_keeps false known differs rest kept = refl
decision_keeps true (Some place) differs rest kept = refl
decision_keeps true None (Some place) rest kept = refl
decision_keeps true None None rest kept = kept

pub judged_keeps : (c : Config) (es : List Entry) (line : List ℕ) (t : ℕ) (h : Head) (body : List ℕ) (failed : Option Reject)
    → option_map_or is_recorded failed true ≡ true → keeps (judged c es line t h body failed) ≡ true
judged_keeps c es line t h body failed kept =
    decision_keeps (bytes_eq h.imad.source line) (place_of (has_body h.imad body) es) (place_of (has_imad h.imad) es) (judged_new c es line t h failed)
    (new_keeps (h.imad.date == cycle c es) failed (is_served_at c h.sender line) (is_none (account_of c h.receiver))
    (is_customer h && is_past c es c.customer t) (not (is_customer h) && is_past c es c.bank t) (is_below_floor c es h)
    (nat_le 999_998 (sent_in_cycle c es (endpoint_of c h.receiver))) (endpoint_of c h.receiver) (sent_in_cycle c es (endpoint_of c h.receiver) + 1) kept)

-- the same of an answer, and that a refusal which turns away may not be recorded
abbrev is_right : Answer → Bool
is_right (Now (Refused why)) = is_recorded why
is_right (Now (Taken dest seq)) = true
is_right (Before place) = true
is_right (Turned why) = not (is_recorded why)

answer_right : (d : Decision) → keeps d ≡ true → is_right (answer_of d) ≡ true
answer_right (New (Refused why)) kept = kept
answer_right (New (Taken dest seq)) kept = refl
answer_right (Known place) kept = refl
answer_right (Differs place) kept = refl
answer_right WrongSource kept = refl

submission_right : (c : Config) (es : List Entry) (line : List ℕ) (t : ℕ) (text : List ℕ) (s : Submission) → submission c.env text ≡ s
    → is_right (verdict_on c es line t s) ≡ true
submission_right c es line t text Strange is = refl
submission_right c es line t text Unnumbered is = refl
submission_right c es line t text (Numbered h body mark failed) is =
    let n = numbered_from c.env text h body mark failed is in
    let kept : option_map_or is_recorded failed true ≡ true =
    ap (λ (o : Option Reject). option_map_or is_recorded o true) n.failed_is ∙ failed_is_kept c.env n.message in
    answer_right (judged c es line t h body failed) (judged_keeps c es line t h body failed kept)

pub verdict_right : (c : Config) (es : List Entry) (line : List ℕ) (t : ℕ) (text : List ℕ) → is_right (verdict c es line t text) ≡ true
verdict_right c es line t text = submission_right c es line t text (submission c.env text) refl

not_true : (b : Bool) → not b ≡ true → b ≡ false
not_true true is = absurd cc
not_true false is = refl

pub kept_recorded : (c : Config) (es : List Entry) (line : List ℕ) (t : ℕ) (text : List ℕ) (why : Reject) → verdict c es line t text ≡ Now (Refused why)
    → is_recorded why ≡ true
kept_recorded c es line t text why told = sym (ap is_right told) ∙ verdict_right c es line t text

pub turned_unrecorded : (c : Config) (es : List Entry) (line : List ℕ) (t : ℕ) (text : List ℕ) (why : Reject) → verdict c es line t text ≡ Turned why
    → is_recorded why ≡ false
turned_unrecorded c es line t text why told = not_true (is_recorded why) (sym (ap is_right told) ∙ verdict_right c es line t text)
