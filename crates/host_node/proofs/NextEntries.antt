-- An entry may come next exactly where its parts pass the tests.
use Rattle.std.specs.Prelude.{IsTrue, ◌↔◌, nat_le, if◌then◌else◌}
use Rattle.std.proofs.Common.{arith, ◌≡◌, ◌≤◌, ◌<◌, refl, sym, ◌∙◌, ap, subst, ℕ, Bool, true, false, set, List, Option, Some, None, Result, Ok, Err}
use Rattle.std.proofs.lemmas.Bool.{leb-false, leb-true}
use Rattle.std.proofs.lemmas.List.{set-set}
use Rattle.faim_base.specs.Numbers.{IsDay}
use Rattle.faim_base.specs.Refusals.{e001, e002}
use Rattle.faim_base.specs.declared.ids.IdFault.{IdFault}
use Rattle.faim_base.specs.declared.judgement.Head.{Head}
use Rattle.faim_base.specs.declared.judgement.Reject.{Reject}
use Rattle.faim_base.specs.declared.judgement.Verdict.{Verdict}
use Rattle.faim_message.specs.declared.form.Form.{Form}
use Rattle.faim_message.specs.declared.form.Form.TheVariants.{Input}
use Rattle.faim_message.specs.Decoded.{decoded}
use Rattle.faim_message.specs.Heads.{head_of}
use Rattle.faim_message.specs.Spelling.{Content, body_text, mark_in, message_spelling}
use Rattle.host_ledger.specs.declared.config.Config.{Config}
use Rattle.host_ledger.specs.declared.entries.Entry.{Entry}
use Rattle.host_ledger.specs.Sums.{cycle}
use Rattle.host_core.specs.declared.rolls.RollCase.TheVariants.{Later, NotLater}
use Rattle.host_core.specs.State.{roll_case}
use Rattle.faim_model.specs.declared.decisions.Decision.{Decision}
use Rattle.faim_model.specs.declared.decisions.Decision.TheVariants.{New}
use Rattle.faim_model.specs.Lawful.{PostFollows, RollFollows, last_moment}
use Rattle.faim_model.specs.Submissions as submissions
use Rattle.faim_model.specs.Submissions.{Submission, submission, submitted_as, with_head, text_with}
use Rattle.faim_model.specs.Verdicts.{Now, Turned, answer_of, judged, verdict, verdict_on}
use Rattle.host_turns.specs.declared.reading.ReadText.{ReadText}
use Rattle.host_turns.specs.declared.reading.Numbered.{Numbered}
use Rattle.host_turns.specs.Reading.{numbered_of, submission_of}
use Rattle.host_node.specs.Following.{HasVerdict, Keeps, WasVerdict}

-- of a message with a blank mark the body is the text
module _ (env : ℕ) (text : List ℕ) (h : Head) (body : List ℕ) (failed : Option Reject)
    (form : (m : Content) → decoded Input text ≡ Some m → m.form ≡ Input)
    (back : (m : Content) → decoded Input text ≡ Some m → set (body_text m) 17 (mark_in m.form m.tags) ≡ text) where
  blank_head : (m : Content) (r : Result Head IdFault) → decoded Input text ≡ Some m → with_head env m r ≡ submissions.Numbered h body 32 failed → body ≡ text
  blank_head m (Err fault) found is = absurd cc
  blank_head m (Ok own) found is =
      let kept : body_text m ≡ body = cc in
      let mark : mark_in Input m.tags ≡ 32 = cc in
      let blank : mark_in m.form m.tags ≡ 32 = ap (λ (f : Form). mark_in f m.tags) (form m found) ∙ mark in
      sym kept ∙ sym (set-set (message_spelling m) 17 32 32) ∙ ap (λ (k : ℕ). set (body_text m) 17 k) (sym blank) ∙ back m found

  blank_text : (o : Option Content) → decoded Input text ≡ o → submitted_as env o ≡ submissions.Numbered h body 32 failed → body ≡ text
  blank_text None found is = absurd cc
  blank_text (Some m) found is = blank_head m (head_of m) found is

  pub blank_body : submission env text ≡ submissions.Numbered h body 32 failed → body ≡ text
  blank_body is = blank_text (decoded Input text) refl is

-- what a text is, by what was read of it
pub read_is : (env own : ℕ) (text : List ℕ) (r as_read : ReadText) → submission_of r ≡ submission env text → r ≡ as_read → env ≡ own
    → submission own text ≡ submission_of as_read
read_is env own text r as_read what is same =
    sym (ap (λ (e : ℕ). submission e text) same) ∙ sym what ∙ ap (λ (x : ReadText). submission_of x) is

-- a message that was read is the one that an entry keeps exactly where it has the entry's head and a blank mark
module _ (env : ℕ) (text : List ℕ) (h : Head) (m : Numbered) (is : submission env text ≡ numbered_of m)
    (form : (w : Content) → decoded Input text ≡ Some w → w.form ≡ Input)
    (back : (w : Content) → decoded Input text ≡ Some w → set (body_text w) 17 (mark_in w.form w.tags) ≡ text) where
  keeps_it : m.head ≡ h → m.mark ≡ 32 → Keeps env h text
  keeps_it head mark =
      let as_kept : submission env text ≡ submissions.Numbered h m.body 32 m.failed =
      is ∙ ap (λ (own : Head). submissions.Numbered own m.body m.mark m.failed) head
      ∙ ap (λ (k : ℕ). submissions.Numbered h m.body k m.failed) mark in
      (m.failed, as_kept ∙ ap (λ (b : List ℕ). submissions.Numbered h b 32 m.failed) (blank_body env text h m.body m.failed form back as_kept))

  kept_head : Keeps env h text → m.head ≡ h
  kept_head k = let same : numbered_of m ≡ submissions.Numbered h text 32 k.0 = sym is ∙ k.1 in cc

  kept_mark : Keeps env h text → m.mark ≡ 32
  kept_mark k = let same : numbered_of m ≡ submissions.Numbered h text 32 k.0 = sym is ∙ k.1 in cc

  pub keeps_where : (b : Bool) → (IsTrue b ↔ ((m.head ≡ h) × (m.mark ≡ 32))) → IsTrue b ↔ Keeps env h text
  keeps_where b test = (λ t. keeps_it (test.0 t).0 (test.0 t).1, λ k. test.1 (kept_head k, kept_mark k))

-- no entry keeps a text without an identifier, or one that is no message
module _ (env : ℕ) (text : List ℕ) (h : Head) where
  pub keeps_unnumbered : submission env text ≡ submissions.Unnumbered → IsTrue false ↔ Keeps env h text
  keeps_unnumbered is = (λ t. absurd (cc), λ k. let wrong : submissions.Unnumbered ≡ submissions.Numbered h text 32 k.0 = sym is ∙ k.1 in absurd (cc))

  pub keeps_strange : submission env text ≡ submissions.Strange → IsTrue false ↔ Keeps env h text
  keeps_strange is = (λ t. absurd (cc), λ k. let wrong : submissions.Strange ≡ submissions.Numbered h text 32 k.0 = sym is ∙ k.1 in absurd (cc))

-- a decision says of the verdict what it is
decides : (d : Decision) (v : Verdict) → answer_of d ≡ Now v → d ≡ New v
decides (New w) v now = cc
decides d v now = absurd cc

module _ (c : Config) (es : List Entry) (h : Head) (body : List ℕ) (mark moment : ℕ) (v : Verdict) where
  pub has_where : (m : Numbered) (d : Decision) (b : Bool) → submission c.env (text_with mark body) ≡ numbered_of m
      → d ≡ judged c es h.imad.source moment m.head m.body m.failed → (IsTrue b ↔ (d ≡ New v)) → IsTrue b ↔ HasVerdict c es h body mark moment v
  has_where m d b is decided test =
      let says : verdict c es h.imad.source moment (text_with mark body) ≡ answer_of d =
      ap (λ (s : Submission). verdict_on c es h.imad.source moment s) is ∙ ap answer_of (sym decided) in
      (λ t. says ∙ ap answer_of (test.0 t), λ has. test.1 (decides d v (sym says ∙ has)))

  pub has_unnumbered : submission c.env (text_with mark body) ≡ submissions.Unnumbered → IsTrue false ↔ HasVerdict c es h body mark moment v
  has_unnumbered is = (λ t. absurd (cc), λ has. let wrong : Turned e002 ≡ Now v = sym (ap (verdict_on c es h.imad.source moment) is) ∙ has in absurd (cc))

  pub has_strange : submission c.env (text_with mark body) ≡ submissions.Strange → IsTrue false ↔ HasVerdict c es h body mark moment v
  has_strange is = (λ t. absurd (cc), λ has. let wrong : Turned e001 ≡ Now v = sym (ap (verdict_on c es h.imad.source moment) is) ∙ has in absurd (cc))

-- the verdict on a submission with a mark of those that its first one may have had
module _ (c : Config) (es : List Entry) (h : Head) (body : List ℕ) (moment : ℕ) (v : Verdict) where
  abbrev Has : ℕ → Type 0
  Has mark = HasVerdict c es h body mark moment v

  pub was_resent : (b : Bool) → (IsTrue b ↔ Has 80) → IsTrue b ↔ WasVerdict c es h body true moment v
  was_resent b test = (λ t. (80, refl, test.0 t), λ w. test.1 (subst Has w.1 w.2))

-- a posted message may come next exactly where it isn't too early, its body is kept, and its verdict was given
module _ (c : Config) (es : List Entry) (h : Head) (body : List ℕ) (resent : Bool) (moment : ℕ) (v : Verdict) where
  pub posts_early : (IsTrue false ↔ (last_moment es ≤ moment)) → IsTrue false ↔ PostFollows c es h body resent moment v
  posts_early test = (λ t. absurd (cc), λ f. test.1 f.in_time)

  pub posts_unkept : (IsTrue false ↔ Keeps c.env h body) → IsTrue false ↔ PostFollows c es h body resent moment v
  posts_unkept test = (λ t. absurd (cc), λ f. test.1 (f.failed, f.spelled))

  pub posts_where : (b : Bool) → (IsTrue true ↔ (last_moment es ≤ moment)) → (IsTrue true ↔ Keeps c.env h body)
      → (IsTrue b ↔ WasVerdict c es h body resent moment v) → IsTrue b ↔ PostFollows c es h body resent moment v
  posts_where b early keeps test =
      let kept = keeps.0 refl in (
        λ t. let was = test.0 t in record { in_time = early.0 refl; failed = kept.0; spelled = kept.1; mark = was.0; marked = was.1; judged = was.2 },
        λ f. test.1 (f.mark, f.marked, f.judged),
      )

-- a Roll may come next exactly where it isn't too early and its date is later
module _ (c : Config) (es : List Entry) (moment date : ℕ) where
  pub rolls_early : (IsTrue false ↔ (last_moment es ≤ moment)) → IsTrue false ↔ RollFollows c es moment date
  rolls_early test = (λ t. absurd (cc), λ f. test.1 f.in_time)

  later_case : (test : Bool) → nat_le date (cycle c es) ≡ test → (if test then NotLater (cycle c es) else Later) ≡ Later → cycle c es < date
  later_case true le later = absurd cc
  later_case false le later = leb-false date (cycle c es) le

  not_later_case : (test : Bool) (current : ℕ) → nat_le date (cycle c es) ≡ test → (if test then NotLater (cycle c es) else Later) ≡ NotLater current → date ≤ cycle c es
  not_later_case true current le later = leb-true date (cycle c es) le
  not_later_case false current le later = absurd cc

  pub rolls_later : (IsTrue true ↔ (last_moment es ≤ moment)) → roll_case c es date ≡ Later → IsDay date → IsTrue true ↔ RollFollows c es moment date
  rolls_later early later day =
      (λ t. record { in_time = early.0 refl; later = later_case (nat_le date (cycle c es)) refl later; day = day }, λ f. refl)

  pub rolls_not_later : (current : ℕ) → roll_case c es date ≡ NotLater current → IsTrue false ↔ RollFollows c es moment date
  rolls_not_later current not_later =
      let le : date ≤ cycle c es = not_later_case (nat_le date (cycle c es)) current refl not_later in
      (λ t. absurd (cc), λ f. let later = f.later in absurd (omega (arith, later)))
