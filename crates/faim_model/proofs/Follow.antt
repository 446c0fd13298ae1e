-- What a turn adds may follow.
use Rattle.std.proofs.Common.{◌≡◌, refl, sym, ◌∙◌, ap, subst, ℕ, Bool, true, false, ◌≤◌, ◌==◌, List, Option, Some, None, inl, inr, arith}
use Rattle.std.specs.Prelude.{codes}
use Rattle.std.proofs.lemmas.Bool.{eqb-true}
use Rattle.faim_base.specs.declared.judgement.Head.{Head}
use Rattle.faim_base.specs.declared.judgement.Reject.{Reject}
use Rattle.faim_base.specs.declared.judgement.Verdict.{Verdict}
use Rattle.faim_base.specs.Text.{is_text_byte}
use Rattle.faim_tags.specs.Reading.{is_among}
use Rattle.host_ledger.specs.declared.config.Config.{Config}
use Rattle.host_ledger.specs.declared.entries.Entry.{Entry}
use Rattle.host_ledger.specs.declared.entries.Entry.TheVariants.{Posted}
use Rattle.faim_model.specs.declared.decisions.Decision.{Decision}
use Rattle.faim_model.specs.declared.decisions.Decision.TheVariants.{New}
use Rattle.faim_model.specs.Submissions.{Submission, Strange, Unnumbered, Numbered, submission}
use Rattle.faim_model.specs.Verdicts.{answer_of, judged, verdict_on}
use Rattle.faim_model.specs.Lawful.{Follows, IsMark, Lawful, PostFollows, last_moment}
use Rattle.faim_model.specs.Turns.{adds_to, answered, effective, submitted, turn_at}
use Rattle.faim_model.proofs.Imads.{bytes_equal}
use Rattle.faim_model.proofs.Judgements.{judged_is_new}
use Rattle.faim_model.proofs.Submitted.{marked_again, own_blank}

-- the mark that stands for one in a lawful list: a blank and P for themselves, and X for any other
pub record StandsFor (mark : ℕ) : Type 0 where
  pub kept : ℕ
  pub is_mark : IsMark (mark == 80) kept
  pub text_byte : is_text_byte kept ≡ true
  pub alike : is_among (codes " P") kept ≡ is_among (codes " P") mark

other_mark : (mark : ℕ) (blank again : Bool) → (mark == 32) ≡ blank → (mark == 80) ≡ again → StandsFor mark
other_mark mark blank true is_blank is_again =
    let at : mark ≡ 80 = eqb-true mark 80 is_again in
    subst StandsFor (sym at) (record { kept = 80; is_mark = refl; text_byte = refl; alike = refl })
other_mark mark true false is_blank is_again =
    let at : mark ≡ 32 = eqb-true mark 32 is_blank in
    subst StandsFor (sym at) (record { kept = 32; is_mark = inl refl; text_byte = refl; alike = refl })
other_mark mark false false is_blank is_again =
    let X : IsMark false 88 = inr refl in
    record {
      kept = 88;
      is_mark = subst (λ (b : Bool). IsMark b 88) (sym is_again) X;
      text_byte = refl;
      alike = grind (arith, is_blank, is_again);
    }

stands_for : (mark : ℕ) → StandsFor mark
stands_for mark = other_mark mark (mark == 32) (mark == 80) refl refl

-- a text that comes on a line at a moment
module _ (c : Config) (es : List Entry) (line : List ℕ) (t : ℕ) (text : List ℕ) where
  -- if its verdict is new, it may be posted
  post_follows : (h : Head) (body : List ℕ) (mark : ℕ) (failed : Option Reject) (v : Verdict) → last_moment es ≤ t
      → submission c.env text ≡ Numbered h body mark failed → judged c es line t h body failed ≡ New v → PostFollows c es h body (mark == 80) t v
  post_follows h body mark failed v in_time is decided =
      let own : line ≡ h.imad.source = sym (bytes_equal h.imad.source line (judged_is_new c es line t h body failed v decided).own_line) in
      let on_own_line : judged c es h.imad.source t h body failed ≡ New v =
      subst (λ (l : List ℕ). judged c es l t h body failed ≡ New v) own decided in
      let stand = stands_for mark in
      let blank = marked_again c.env text h body mark failed 32 is refl in
      let kept = marked_again c.env text h body mark failed stand.kept is stand.text_byte in
      let same_failed : judged c es h.imad.source t h body kept.failed_now ≡ New v =
      ap (judged c es h.imad.source t h body) (kept.same stand.alike) ∙ on_own_line in
      record {
        in_time = in_time;
        failed = blank.failed_now;
        spelled = ap (submission c.env) (sym (own_blank c.env text h body mark failed is)) ∙ blank.is;
        mark = stand.kept;
        marked = stand.is_mark;
        judged = ap (verdict_on c es h.imad.source t) kept.is ∙ ap answer_of same_failed;
      }

  answered_follows : (h : Head) (body : List ℕ) (mark : ℕ) (failed : Option Reject) (d : Decision) (x : Entry) → last_moment es ≤ t
      → submission c.env text ≡ Numbered h body mark failed → judged c es line t h body failed ≡ d
      → (answered es t h body mark (answer_of d)).adds ≡ Some x → Follows c es x
  answered_follows h body mark failed (New v) x in_time is decided adds =
      let same : Posted h body (mark == 80) t v ≡ x = cc in
      subst (λ (y : Entry). Follows c es y) same (post_follows h body mark failed v in_time is decided)
  answered_follows h body mark failed d x in_time is decided adds = absurd cc

  turn_follows_by : (s : Submission) (x : Entry) → last_moment es ≤ t → submission c.env text ≡ s → (turn_at c es line t s).adds ≡ Some x → Follows c es x
  turn_follows_by Strange x in_time is adds = absurd cc
  turn_follows_by Unnumbered x in_time is adds = absurd cc
  turn_follows_by (Numbered h body mark failed) x in_time is adds =
      answered_follows h body mark failed (judged c es line t h body failed) x in_time is refl adds

-- what a submitted text adds may follow
pub added_follows : (c : Config) (es : List Entry) (line : List ℕ) (reading : ℕ) (text : List ℕ) (x : Entry)
    → (submitted c es line reading text).adds ≡ Some x → Follows c es x
added_follows c es line reading text x adds =
    let in_time : last_moment es ≤ effective es reading = omega arith in
    turn_follows_by c es line (effective es reading) text (submission c.env text) x in_time refl adds

pub lawful_with : (c : Config) (es : List Entry) (adds : Option Entry) → ((x : Entry) → adds ≡ Some x → Follows c es x) → Lawful c es
    → Lawful c (adds_to adds es)
lawful_with c es None follows lawful = lawful
lawful_with c es (Some x) follows lawful = (follows x refl, lawful)

-- a list stays lawful
pub stays_lawful : (c : Config) (es : List Entry) (line : List ℕ) (reading : ℕ) (text : List ℕ) → Lawful c es
    → Lawful c (adds_to (submitted c es line reading text).adds es)
stays_lawful c es line reading text lawful =
    lawful_with c es (submitted c es line reading text).adds (added_follows c es line reading text) lawful
