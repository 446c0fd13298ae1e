-- The messages that a lawful list holds.
use Rattle.std.proofs.Common.{◌≡◌, refl, sym, ◌∙◌, subst, ⊎_elim, ℕ, Bool, List, [], ◌∷◌, Option, Ok}
use Rattle.std.specs.List.{Contains}
use Rattle.faim_base.specs.declared.ids.Imad.{Imad}
use Rattle.faim_base.specs.declared.judgement.Head.{Head}
use Rattle.faim_base.specs.declared.judgement.Reject.{Reject}
use Rattle.faim_base.specs.declared.judgement.Verdict.{Verdict}
use Rattle.faim_message.specs.declared.form.Form.TheVariants.{Input}
use Rattle.faim_message.specs.Spelling.{Content, Spells, mark_in}
use Rattle.faim_message.specs.Heads.{head_of}
use Rattle.host_ledger.specs.declared.config.Config.{Config}
use Rattle.host_ledger.specs.declared.entries.Entry.{Entry}
use Rattle.host_ledger.specs.declared.entries.Entry.TheVariants.{Posted}
use Rattle.faim_model.specs.declared.decisions.HostOutcome.TheVariants.{Known}
use Rattle.faim_model.specs.Submissions.{Numbered, submission}
use Rattle.faim_model.specs.Lawful.{Follows, Lawful}
use Rattle.faim_model.specs.Turns.{stays, submitted}
use Rattle.faim_model.proofs.Again.{told_as_before}
use Rattle.faim_model.proofs.Kept.{is_member}
use Rattle.faim_model.proofs.Members.{first_or_later, none_in}
use Rattle.faim_model.proofs.Submitted.{numbered_from, own_mark}
use Rattle.faim_model.proofs.Turned.{as_told}

-- each entry of a lawful list follows some of them
pub each_follows : (c : Config) (es : List Entry) (x : Entry) → Lawful c es → Contains es x → (older : List Entry) × Follows c older x
each_follows c [] x lawful there = absurd (none_in x there)
each_follows c (y ∷ es) x lawful there =
    ⊎_elim (λ (here : x ≡ y). (es, subst (λ (z : Entry). Follows c es z) (sym here) lawful.0))
    (λ (later : Contains es x). each_follows c es x lawful.1 later) (first_or_later y x es there)

module _ (c : Config) (es : List Entry) (h : Head) (body : List ℕ) (resent : Bool) (moment : ℕ) (v : Verdict) where
  pub posted_sound : Lawful c es → Contains es (Posted h body resent moment v)
      → (m : Content) × Spells m body × (m.form ≡ Input) × (head_of m ≡ Ok h) × (mark_in Input m.tags ≡ 32)
  posted_sound lawful there =
      let f = (each_follows c es (Posted h body resent moment v) lawful there).1 in
      let n = numbered_from c.env body h body 32 f.failed f.spelled in
      (n.message, n.spells, n.is_input, n.head, own_mark n.message body n.spells n.is_input ∙ sym n.mark_is)

  -- its text gets the verdict that it keeps
  pub own_text_stands : (reading : ℕ) → Lawful c es → Contains es (Posted h body resent moment v)
      → submitted c es h.imad.source reading body ≡ stays (Known h.imad v)
  own_text_stands reading lawful there =
      let f = (each_follows c es (Posted h body resent moment v) lawful there).1 in
      told_as_before c es h body resent moment v reading body h body 32 f.failed lawful there f.spelled refl refl

-- a verdict that is told again is that of an entry with the text's identifier and body
pub known_is_kept : (c : Config) (es : List Entry) (line : List ℕ) (reading : ℕ) (text : List ℕ) (imad : Imad) (v : Verdict)
    → (submitted c es line reading text).outcome ≡ Known imad v
    → (own : Head) × (body : List ℕ) × (mark : ℕ) × (failed : Option Reject) × (h : Head) × (resent : Bool) × (moment : ℕ)
    × (submission c.env text ≡ Numbered own body mark failed) × (own.imad ≡ imad) × (h.imad ≡ imad) × Contains es (Posted h body resent moment v)
known_is_kept c es line reading text imad v told =
    let w = (as_told c es line reading text).known imad v told in
    let kept = w.5 in
    let there = is_member es w.0 (Posted kept.head w.2 kept.resent kept.moment kept.verdict) kept.stands in (
      w.1,
      w.2,
      w.3,
      w.4,
      kept.head,
      kept.resent,
      kept.moment,
      w.6,
      w.8,
      kept.own ∙ w.8,
      subst (λ (x : Verdict). Contains es (Posted kept.head w.2 kept.resent kept.moment x)) w.9 there,
    )
