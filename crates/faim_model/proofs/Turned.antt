-- What a turn tells and adds, by its verdict; and its verdict, by what it tells.
use Rattle.std.proofs.Common.{◌≡◌, refl, sym, ◌∙◌, ap, ℕ, ◌==◌, Bool, List, Option, Some}
use Rattle.std.specs.Str.{bytes_eq}
use Rattle.faim_base.specs.declared.ids.Imad.{Imad}
use Rattle.faim_base.specs.declared.judgement.Head.{Head}
use Rattle.faim_base.specs.declared.judgement.Reject.{Reject}
use Rattle.faim_base.specs.declared.judgement.Verdict.{Verdict}
use Rattle.faim_base.specs.Refusals.{e001, e002, h102, x201}
use Rattle.host_ledger.specs.declared.config.Config.{Config}
use Rattle.host_ledger.specs.declared.entries.Entry.{Entry}
use Rattle.host_ledger.specs.declared.entries.Entry.TheVariants.{Posted}
use Rattle.faim_model.specs.declared.decisions.Decision.{Decision}
use Rattle.faim_model.specs.declared.decisions.HostOutcome.TheVariants.{Recorded, Known, TurnedAway}
use Rattle.faim_model.specs.Submissions.{Submission, Strange, Unnumbered, Numbered, submission}
use Rattle.faim_model.specs.Verdicts.{Answer, Now, Before, Turned, answer_of, has_body, has_imad, judged, place_of, verdict, verdict_on}
use Rattle.faim_model.specs.Turns.{HostTurn, answered, effective, entry_at, stays, submitted, told_again, turn_at}
use Rattle.faim_model.proofs.Kept.{IsKept, kept_at}
use Rattle.faim_model.proofs.Told.{DecisionCase, Foreign, Repeated, Other, Fresh, decision_case_of}

-- a new verdict is recorded
pub recorded_turn : (c : Config) (es : List Entry) (line : List ℕ) (reading : ℕ) (text : List ℕ) (h : Head) (body : List ℕ) (mark : ℕ)
    (failed : Option Reject) (v : Verdict) → submission c.env text ≡ Numbered h body mark failed → verdict c es line (effective es reading) text ≡ Now v
    → submitted c es line reading text ≡ record { adds = Some (Posted h body (mark == 80) (effective es reading) v); outcome = Recorded h.imad v }
recorded_turn c es line reading text h body mark failed v is now =
    let t : ℕ = effective es reading in
    ap (turn_at c es line t) is ∙ ap (answered es t h body mark) (sym (ap (verdict_on c es line t) is) ∙ now)

turned_at : (c : Config) (es : List Entry) (line : List ℕ) (t : ℕ) (s : Submission) (why : Reject) → verdict_on c es line t s ≡ Turned why
    → turn_at c es line t s ≡ stays (TurnedAway why)
turned_at c es line t Strange why told = let same : e001 ≡ why = cc in ap (λ (w : Reject). stays (TurnedAway w)) same
turned_at c es line t Unnumbered why told = let same : e002 ≡ why = cc in ap (λ (w : Reject). stays (TurnedAway w)) same
turned_at c es line t (Numbered h body mark failed) why told = ap (answered es t h body mark) told

again_at : (c : Config) (es : List Entry) (line : List ℕ) (t : ℕ) (s : Submission) (place : ℕ) → verdict_on c es line t s ≡ Before place
    → turn_at c es line t s ≡ stays (told_again (entry_at es place))
again_at c es line t Strange place told = absurd cc
again_at c es line t Unnumbered place told = absurd cc
again_at c es line t (Numbered h body mark failed) place told = ap (answered es t h body mark) told

-- a refusal that isn't kept is told, and a verdict that stands is told again
pub turned_turn : (c : Config) (es : List Entry) (line : List ℕ) (reading : ℕ) (text : List ℕ) (why : Reject)
    → verdict c es line (effective es reading) text ≡ Turned why → submitted c es line reading text ≡ stays (TurnedAway why)
turned_turn c es line reading text why told = turned_at c es line (effective es reading) (submission c.env text) why told

pub again_turn : (c : Config) (es : List Entry) (line : List ℕ) (reading : ℕ) (text : List ℕ) (place : ℕ)
    → verdict c es line (effective es reading) text ≡ Before place → submitted c es line reading text ≡ stays (told_again (entry_at es place))
again_turn c es line reading text place told = again_at c es line (effective es reading) (submission c.env text) place told

-- what an outcome says of the verdict and of what is added
pub record AsTold (c : Config) (es : List Entry) (line : List ℕ) (t : ℕ) (s : Submission) : Type 0 where
  pub turned : (why : Reject) → (turn_at c es line t s).outcome ≡ TurnedAway why → verdict_on c es line t s ≡ Turned why
  pub known : (imad : Imad) (v : Verdict) → (turn_at c es line t s).outcome ≡ Known imad v
      → (place : ℕ) × (h : Head) × (body : List ℕ) × (mark : ℕ) × (failed : Option Reject) × (kept : IsKept es place h.imad body)
      × (s ≡ Numbered h body mark failed) × (verdict_on c es line t s ≡ Before place) × (h.imad ≡ imad) × (kept.verdict ≡ v)
  pub recorded : (imad : Imad) (v : Verdict) → (turn_at c es line t s).outcome ≡ Recorded imad v
      → (h : Head) × (body : List ℕ) × (mark : ℕ) × (failed : Option Reject)
      × (s ≡ Numbered h body mark failed) × (verdict_on c es line t s ≡ Now v) × (h.imad ≡ imad)

module _ (c : Config) (es : List Entry) (line : List ℕ) (t : ℕ) where
  turned_told : (s : Submission) (own : Reject) → turn_at c es line t s ≡ stays (TurnedAway own) → verdict_on c es line t s ≡ Turned own → AsTold c es line t s
  turned_told s own is told =
      let out : (turn_at c es line t s).outcome ≡ TurnedAway own = ap (λ (x : HostTurn). x.outcome) is in
      record {
        turned = λ why tells. let same : own ≡ why = cc in told ∙ ap (λ (w : Reject). Turned w) same;
        known = λ imad v tells. absurd cc;
        recorded = λ imad v tells. absurd cc;
      }

  again_told : (h : Head) (body : List ℕ) (mark : ℕ) (failed : Option Reject) (place : ℕ) (kept : IsKept es place h.imad body)
      → verdict_on c es line t (Numbered h body mark failed) ≡ Before place → AsTold c es line t (Numbered h body mark failed)
  again_told h body mark failed place kept told =
      let out : (turn_at c es line t (Numbered h body mark failed)).outcome ≡ Known kept.head.imad kept.verdict =
      ap (λ (a : Answer). (answered es t h body mark a).outcome) told ∙ ap told_again kept.stands in
      record {
        turned = λ why tells. absurd cc;
        known = λ imad v tells. (place, h, body, mark, failed, kept, refl, told, sym kept.own ∙ cc, cc);
        recorded = λ imad v tells. absurd cc;
      }

  new_told : (h : Head) (body : List ℕ) (mark : ℕ) (failed : Option Reject) (v : Verdict)
      → verdict_on c es line t (Numbered h body mark failed) ≡ Now v → AsTold c es line t (Numbered h body mark failed)
  new_told h body mark failed v told =
      let out : (turn_at c es line t (Numbered h body mark failed)).outcome ≡ Recorded h.imad v =
      ap (λ (a : Answer). (answered es t h body mark a).outcome) told in
      record {
        turned = λ why tells. absurd cc;
        known = λ imad w tells. absurd cc;
        recorded = λ imad w tells. (h, body, mark, failed, refl, told ∙ cc, cc);
      }

  decided_told : (h : Head) (body : List ℕ) (mark : ℕ) (failed : Option Reject) (own : Bool) (known differs : Option ℕ)
      → place_of (has_body h.imad body) es ≡ known → DecisionCase own known differs (judged c es line t h body failed)
      → AsTold c es line t (Numbered h body mark failed)
  decided_told h body mark failed own known differs at (Foreign foreign is) =
      turned_told (Numbered h body mark failed) h102 (ap (λ (d : Decision). answered es t h body mark (answer_of d)) is) (ap answer_of is)
  decided_told h body mark failed own known differs at (Repeated there place found is) =
      again_told h body mark failed place (kept_at es place h.imad body (at ∙ found)) (ap answer_of is)
  decided_told h body mark failed own known differs at (Other there unknown place found is) =
      turned_told (Numbered h body mark failed) x201 (ap (λ (d : Decision). answered es t h body mark (answer_of d)) is) (ap answer_of is)
  decided_told h body mark failed own known differs at (Fresh there unknown fresh v is) =
      new_told h body mark failed v (ap answer_of is)

  told_by : (s : Submission) → AsTold c es line t s
  told_by Strange = turned_told Strange e001 refl refl
  told_by Unnumbered = turned_told Unnumbered e002 refl refl
  told_by (Numbered h body mark failed) =
      decided_told h body mark failed (bytes_eq h.imad.source line) (place_of (has_body h.imad body) es) (place_of (has_imad h.imad) es) refl
      (decision_case_of c es line t h body failed)

-- whatever text is submitted
pub as_told : (c : Config) (es : List Entry) (line : List ℕ) (reading : ℕ) (text : List ℕ)
    → AsTold c es line (effective es reading) (submission c.env text)
as_told c es line reading text = told_by c es line (effective es reading) (submission c.env text)
