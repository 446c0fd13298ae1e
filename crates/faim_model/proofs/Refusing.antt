-- Each refusal that isn't kept, exactly where it comes; and which refusals are kept.
use Rattle.std.proofs.Common.{◌≡◌, ◌≢◌, ◌↔◌, refl, sym, ◌∙◌, ap, subst, ℕ, ◌+◌, ◌*◌, ◌<◌, ◌⊎◌, ⊎_elim, inl, inr, lit≤, Bool, true, false, not, List, [], ◌∷◌, Option, None, Err, if◌then◌else◌, arith}
use Rattle.std.specs.List.{Contains}
use Rattle.std.specs.Str.{bytes_eq}
use Rattle.std.proofs.lemmas.Bool.{and_from, false_from_ne_true}
use Rattle.faim_base.specs.declared.ids.IdFault.{IdFault}
use Rattle.faim_base.specs.declared.ids.Imad.{Imad}
use Rattle.faim_base.specs.declared.judgement.Head.{Head}
use Rattle.faim_base.specs.declared.judgement.Reject.{Reject}
use Rattle.faim_base.specs.Refusals.{e001, e002, h102, x201}
use Rattle.faim_message.specs.declared.form.Form.TheVariants.{Input}
use Rattle.faim_message.specs.Spelling.{Content, Spells}
use Rattle.faim_message.specs.Heads.{head_of}
use Rattle.faim_message.proofs.Decodings.{none_decoded}
use Rattle.host_ledger.specs.declared.config.Config.{Config}
use Rattle.host_ledger.specs.declared.entries.Entry.{Entry}
use Rattle.host_ledger.specs.declared.entries.Entry.TheVariants.{Posted, Roll}
use Rattle.faim_model.specs.declared.decisions.Decision.{Decision}
use Rattle.faim_model.specs.declared.decisions.Decision.TheVariants.{New, Known, Differs, WrongSource}
use Rattle.faim_model.specs.Submissions.{Submission, Strange, Unnumbered, Numbered, submission, submitted_as}
use Rattle.faim_model.specs.Verdicts.{Answer, Turned, answer_of, has_body, has_imad, judged, judged_new, place_of, verdict, verdict_on}
use Rattle.faim_model.specs.Lawful.{HasOther, Lawful}
use Rattle.faim_model.proofs.Again.{differs_case}
use Rattle.faim_model.proofs.Imads.{bytes_equal, bytes_pass, imads_equal, none_there}
use Rattle.faim_model.proofs.Members.{first_or_later, none_in}
use Rattle.faim_model.proofs.Kept.{found_passes, is_member}
use Rattle.faim_model.proofs.Places.{imad_found, no_other_body}
use Rattle.faim_model.proofs.Told.{TextCase, NoInput, NoImad, WithImad, text_case_of, unnumbered_as, DecisionCase, Foreign, Repeated, Other, Fresh, decision_case_of}

-- the refusal that an answer turns away with, as a number; 0 where it turns nothing away
abbrev turned_code : Answer → ℕ
turned_code (Turned why) = 1000 * why.category + why.code
turned_code other = 0

-- what the verdict on a message turns away with: nothing, another line or another text
decided_code : (own : Bool) (known differs : Option ℕ) (d : Decision) → DecisionCase own known differs d
    → (n : ℕ) → turned_code (answer_of d) ≡ n → (n ≡ 0) ⊎ ((n ≡ 72_102) ⊎ (n ≡ 88_201))
decided_code own known differs d (Foreign foreign is) n told = inr (inl (sym told ∙ ap (λ (x : Decision). turned_code (answer_of x)) is))
decided_code own known differs d (Repeated there place found is) n told = inl (sym told ∙ ap (λ (x : Decision). turned_code (answer_of x)) is)
decided_code own known differs d (Other there unknown place found is) n told = inr (inr (sym told ∙ ap (λ (x : Decision). turned_code (answer_of x)) is))
decided_code own known differs d (Fresh there unknown fresh v is) n told = inl (sym told ∙ ap (λ (x : Decision). turned_code (answer_of x)) is)

no_such : (n k : ℕ) → n ≡ k → (n ≡ 0) ⊎ ((n ≡ 72_102) ⊎ (n ≡ 88_201)) → k < 70_000 → 0 < k → ⊥
no_such n k is cases small some =
    ⊎_elim (λ (none : n ≡ 0). omega arith) (λ (one : (n ≡ 72_102) ⊎ (n ≡ 88_201)). ⊎_elim (λ (line : n ≡ 72_102). omega arith) (λ (text : n ≡ 88_201). omega arith) one) cases

-- a text, a line, and a moment
module _ (c : Config) (es : List Entry) (line : List ℕ) (t : ℕ) (text : List ℕ) where
  by_submission : (s : Submission) → submission c.env text ≡ s → verdict c es line t text ≡ verdict_on c es line t s
  by_submission s is = ap (verdict_on c es line t) is

  code_by : (s : Submission) (why : Reject) → submission c.env text ≡ s → verdict c es line t text ≡ Turned why
      → turned_code (verdict_on c es line t s) ≡ 1000 * why.category + why.code
  code_by s why is told = ap turned_code (sym (by_submission s is) ∙ told)

  message_code : (h : Head) (body : List ℕ) (mark : ℕ) (failed : Option Reject) (why : Reject) → submission c.env text ≡ Numbered h body mark failed
      → verdict c es line t text ≡ Turned why → 1000 * why.category + why.code < 70_000 → 0 < 1000 * why.category + why.code → ⊥
  message_code h body mark failed why is told small some =
      no_such (turned_code (verdict_on c es line t (Numbered h body mark failed))) (1000 * why.category + why.code) (code_by (Numbered h body mark failed) why is told)
      (decided_code (bytes_eq h.imad.source line) (place_of (has_body h.imad body) es) (place_of (has_imad h.imad) es) (judged c es line t h body failed)
      (decision_case_of c es line t h body failed) _ refl) small some

  -- E001 comes exactly where the text spells no Input message
  strange_by : TextCase c.env text → verdict c es line t text ≡ Turned e001 → (m : Content) → Spells m text → m.form ≢ Input
  strange_by (NoInput never is) told = never
  strange_by (NoImad m fault spells form head is) told =
      let code : turned_code (verdict_on c es line t Unnumbered) ≡ 69_001 = code_by Unnumbered e001 is told in
      absurd (let two : 69_002 ≡ 69_001 = code in omega (arith, two))
  strange_by (WithImad h body mark failed is) told = absurd (message_code h body mark failed e001 is told (lit≤ tt) (lit≤ tt))

  pub e001_where : (verdict c es line t text ≡ Turned e001) ↔ ((m : Content) → Spells m text → m.form ≢ Input)
  e001_where = (
    strange_by (text_case_of c.env text),
    λ never. by_submission Strange (ap (submitted_as c.env) (none_decoded Input text never)),
  )

  -- E002 where it spells one whose identifier is none
  unnumbered_by : TextCase c.env text → verdict c es line t text ≡ Turned e002
      → (m : Content) × (fault : IdFault) × Spells m text × (m.form ≡ Input) × (head_of m ≡ Err fault)
  unnumbered_by (NoInput never is) told =
      let code : turned_code (verdict_on c es line t Strange) ≡ 69_002 = code_by Strange e002 is told in
      absurd (let two : 69_001 ≡ 69_002 = code in omega (arith, two))
  unnumbered_by (NoImad m fault spells form head is) told = (m, fault, spells, form, head)
  unnumbered_by (WithImad h body mark failed is) told = absurd (message_code h body mark failed e002 is told (lit≤ tt) (lit≤ tt))

  pub e002_where : (verdict c es line t text ≡ Turned e002)
      ↔ ((m : Content) × (fault : IdFault) × Spells m text × (m.form ≡ Input) × (head_of m ≡ Err fault))
  e002_where = (
    unnumbered_by (text_case_of c.env text),
    λ w. by_submission Unnumbered (unnumbered_as c.env text w.0 w.1 w.2 w.3 w.4),
  )

  -- H102 where the identifier's source has another line
  foreign_by : (h : Head) (body : List ℕ) (mark : ℕ) (failed : Option Reject) (own : Bool) (known differs : Option ℕ)
      → submission c.env text ≡ Numbered h body mark failed → bytes_eq h.imad.source line ≡ own → DecisionCase own known differs (judged c es line t h body failed)
      → verdict c es line t text ≡ Turned h102 → h.imad.source ≢ line
  foreign_by h body mark failed own known differs is test (Foreign foreign decided) told = λ same.
      let both : true ≡ false = sym (bytes_pass h.imad.source line same) ∙ test ∙ foreign in absurd cc
  foreign_by h body mark failed own known differs is test (Repeated there place found decided) told =
      let code : 0 ≡ 72_102 = sym (ap (λ (d : Decision). turned_code (answer_of d)) decided) ∙ code_by (Numbered h body mark failed) h102 is told in absurd (omega (arith, code))
  foreign_by h body mark failed own known differs is test (Other there unknown place found decided) told =
      let code : 88_201 ≡ 72_102 = sym (ap (λ (d : Decision). turned_code (answer_of d)) decided) ∙ code_by (Numbered h body mark failed) h102 is told in absurd (omega (arith, code))
  foreign_by h body mark failed own known differs is test (Fresh there unknown fresh v decided) told =
      let code : 0 ≡ 72_102 = sym (ap (λ (d : Decision). turned_code (answer_of d)) decided) ∙ code_by (Numbered h body mark failed) h102 is told in absurd (omega (arith, code))

  pub h102_where : (h : Head) (body : List ℕ) (mark : ℕ) (failed : Option Reject) → submission c.env text ≡ Numbered h body mark failed
      → (verdict c es line t text ≡ Turned h102) ↔ (h.imad.source ≢ line)
  h102_where h body mark failed is = (
    foreign_by h body mark failed (bytes_eq h.imad.source line) (place_of (has_body h.imad body) es) (place_of (has_imad h.imad) es) is refl
        (decision_case_of c es line t h body failed),
    λ apart.
        let other : bytes_eq h.imad.source line ≡ false = false_from_ne_true (bytes_eq h.imad.source line) (λ same. apart (bytes_equal h.imad.source line same)) in
        let decided : judged c es line t h body failed ≡ WrongSource = wrong_source (bytes_eq h.imad.source line) _ other in
        by_submission (Numbered h body mark failed) is ∙ ap answer_of decided,
  )
    where
      wrong_source : (own : Bool) (rest : Decision) → own ≡ false → (if not own then WrongSource else rest) ≡ WrongSource
      wrong_source own rest other = rw other refl

-- where no entry is found, none of the list passes
none_passes : (p : Entry → Bool) (es : List Entry) (y : Entry) → place_of p es ≡ None → Contains es y → p y ≡ false
none_passes p [] y none there = absurd (none_in y there)
none_passes p (x ∷ es) y none there =
    let apart = none_there p x es none in
    ⊎_elim (λ (here : y ≡ x). subst (λ (z : Entry). p z ≡ false) (sym here) apart.0)
    (λ (older : Contains es y). none_passes p es y apart.1 older) (first_or_later x y es there)

-- an entry that is found by the identifier alone has another body
other_at : (es : List Entry) (h : Head) (body : List ℕ) (y : Entry) → Contains es y → has_imad h.imad y ≡ true → has_body h.imad body y ≡ false → HasOther es h body
other_at es h body (Roll moment date) there passes lacks = absurd cc
other_at es h body (Posted old other resent moment v) there passes lacks = record {
  head = old;
  other = other;
  resent = resent;
  moment = moment;
  verdict = v;
  there = there;
  same = imads_equal old.imad h.imad passes;
  apart = λ same. let both : true ≡ false = sym (and_from _ _ passes (bytes_pass other body (sym same))) ∙ lacks in absurd cc;
}

module _ (c : Config) (es : List Entry) (line : List ℕ) (t : ℕ) (text : List ℕ) (h : Head) (body : List ℕ) (mark : ℕ) (failed : Option Reject) where
  no_turn : submission c.env text ≡ Numbered h body mark failed → (d : Decision) → judged c es line t h body failed ≡ d → (turned_code (answer_of d) ≡ 88_201 → ⊥)
      → verdict c es line t text ≡ Turned x201 → ⊥
  no_turn is d decided other told =
      other (sym (ap (λ (x : Decision). turned_code (answer_of x)) decided) ∙ code_by c es line t text (Numbered h body mark failed) x201 is told)

  known_by : (own : Bool) (known differs : Option ℕ) → submission c.env text ≡ Numbered h body mark failed → bytes_eq h.imad.source line ≡ own
      → place_of (has_body h.imad body) es ≡ known → place_of (has_imad h.imad) es ≡ differs → DecisionCase own known differs (judged c es line t h body failed)
      → verdict c es line t text ≡ Turned x201 → (h.imad.source ≡ line) × HasOther es h body
  known_by own known differs is source at there (Foreign foreign decided) told = absurd (no_turn is WrongSource decided (λ code. absurd (omega (arith, code))) told)
  known_by own known differs is source at there (Repeated own_line place found decided) told = absurd (no_turn is (Known place) decided (λ code. absurd (omega (arith, code))) told)
  known_by own known differs is source at there (Fresh own_line unknown fresh v decided) told = absurd (no_turn is (New v) decided (λ code. absurd (omega (arith, code))) told)
  known_by own known differs is source at there (Other own_line unknown place found decided) told =
      let entry = found_passes (has_imad h.imad) es place (there ∙ found) in
      let member = is_member es place entry.0 entry.1 in (
        bytes_equal h.imad.source line (source ∙ own_line),
        other_at es h body entry.0 member entry.2 (none_passes (has_body h.imad body) es entry.0 (at ∙ unknown) member),
      )

  -- X201 where an entry has the identifier with another body
  pub x201_where : Lawful c es → submission c.env text ≡ Numbered h body mark failed
      → (verdict c es line t text ≡ Turned x201) ↔ ((h.imad.source ≡ line) × HasOther es h body)
  x201_where lawful is = (
    known_by (bytes_eq h.imad.source line) (place_of (has_body h.imad body) es) (place_of (has_imad h.imad) es) is refl refl refl
        (decision_case_of c es line t h body failed),
    λ w.
        let o = w.1 in
        let found = imad_found c o.head o.other o.resent o.moment o.verdict h.imad es o.there o.same in
        let unknown : place_of (has_body h.imad body) es ≡ None =
        subst (λ (i : Imad). place_of (has_body i body) es ≡ None) o.same
        (no_other_body c o.head o.other o.resent o.moment o.verdict body es lawful o.there o.apart) in
        let decided : judged c es line t h body failed ≡ Differs found.0 =
        differs_case (bytes_eq h.imad.source line) (place_of (has_body h.imad body) es) (place_of (has_imad h.imad) es) (judged_new c es line t h failed) found.0
        (bytes_pass h.imad.source line w.0) unknown found.1 in
        by_submission c es line t text (Numbered h body mark failed) is ∙ ap answer_of decided,
  )
