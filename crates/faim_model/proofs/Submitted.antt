-- What a submission says of its text.
use Rattle.std.proofs.Common.{◌≡◌, refl, sym, ◌∙◌, ap, subst, ℕ, ◌<◌, true, false, set, get_or, List, [], ◌∷◌, length, Option, Some, None, option_map, Result, Ok, Err}
use Rattle.std.specs.Prelude.{codes}
use Rattle.std.proofs.lemmas.List.{get_or-set_same}
use Rattle.faim_base.specs.declared.ids.IdFault.{IdFault}
use Rattle.faim_base.specs.declared.judgement.Head.{Head}
use Rattle.faim_base.specs.declared.judgement.Reject.{Reject}
use Rattle.faim_base.specs.Refusals.{edit}
use Rattle.faim_base.specs.Text.{is_text_byte}
use Rattle.faim_tags.specs.Reading.{is_among}
use Rattle.faim_message.specs.declared.form.Form.{Form}
use Rattle.faim_message.specs.declared.form.Form.TheVariants.{Input}
use Rattle.faim_tags.specs.Spelling.{Tag}
use Rattle.faim_message.specs.declared.form.Breaks.{Breaks}
use Rattle.faim_message.specs.Forms.{first_of}
use Rattle.faim_message.specs.Spelling.{Content, IsMessage, Spells, body_text, leads, mark_byte, mark_in, mark_place, marked_with, message_spelling, with_first_byte}
use Rattle.faim_message.specs.Decoded.{decoded}
use Rattle.faim_message.specs.Heads.{head_of}
use Rattle.faim_message.proofs.Decodings.{decoded_spelled, spelled_as}
use Rattle.faim_message.proofs.MarkBytes.{first_place, mark_spells, mark_there, mark_within}
use Rattle.faim_model.specs.Submissions.{Numbered, failed_edit, submission, submitted_as, text_with, with_head}
use Rattle.faim_model.proofs.Marks.{edits_stay, head_stays, set_twice}

-- the message that a text with an identifier is
pub record IsNumbered (env : ℕ) (text : List ℕ) (h : Head) (body : List ℕ) (mark : ℕ) (failed : Option Reject) : Type 0 where
  pub message : Content
  pub spells : Spells message text
  pub is_input : message.form ≡ Input
  pub head : head_of message ≡ Ok h
  pub body_is : body ≡ set text 17 32
  pub mark_is : mark ≡ get_or text 17 0
  pub failed_is : failed ≡ failed_edit env message

own_body : (m : Content) (text : List ℕ) → Spells m text → body_text m ≡ set text 17 32
own_body m text h = ap (λ (xs : List ℕ). set xs 17 32) (sym h.spelled)

pub own_mark : (m : Content) (text : List ℕ) → Spells m text → m.form ≡ Input → mark_in Input m.tags ≡ get_or text 17 0
own_mark m text h form =
    ap (λ (f : Form). mark_in f m.tags) (sym form) ∙ sym (mark_there m h.sound)
    ∙ ap (λ (f : Form). get_or (message_spelling m) (mark_byte f) 0) form ∙ ap (λ (xs : List ℕ). get_or xs 17 0) (sym h.spelled)

head_case : (env : ℕ) (text : List ℕ) (m : Content) (r : Result Head IdFault) (h : Head) (body : List ℕ) (mark : ℕ) (failed : Option Reject)
    → Spells m text → m.form ≡ Input → head_of m ≡ r → with_head env m r ≡ Numbered h body mark failed → IsNumbered env text h body mark failed
head_case env text m (Err fault) h body mark failed spells form head is = absurd cc
head_case env text m (Ok read) h body mark failed spells form head is =
    let own : body_text m ≡ body = cc in
    let marked : mark_in Input m.tags ≡ mark = cc in
    record {
      message = m;
      spells = spells;
      is_input = form;
      head = let same : read ≡ h = cc in head ∙ ap (λ (x : Head). Ok x) same;
      body_is = sym own ∙ own_body m text spells;
      mark_is = sym marked ∙ own_mark m text spells form;
      failed_is = cc;
    }

text_case : (env : ℕ) (text : List ℕ) (found : Option Content) (h : Head) (body : List ℕ) (mark : ℕ) (failed : Option Reject)
    → decoded Input text ≡ found → submitted_as env found ≡ Numbered h body mark failed → IsNumbered env text h body mark failed
text_case env text None h body mark failed found is = absurd cc
text_case env text (Some m) h body mark failed found is =
    let s = decoded_spelled Input text m found in head_case env text m (head_of m) h body mark failed s.0 s.1 refl is

-- a text with an identifier is a message
pub numbered_from : (env : ℕ) (text : List ℕ) (h : Head) (body : List ℕ) (mark : ℕ) (failed : Option Reject)
    → submission env text ≡ Numbered h body mark failed → IsNumbered env text h body mark failed
numbered_from env text h body mark failed is = text_case env text (decoded Input text) h body mark failed refl is

-- a message is a text with an identifier where its head is one
pub numbered_as : (env : ℕ) (text : List ℕ) (m : Content) (h : Head) → Spells m text → m.form ≡ Input → head_of m ≡ Ok h
    → submission env text ≡ Numbered h (set text 17 32) (get_or text 17 0) (failed_edit env m)
numbered_as env text m h spells form head =
    ap (submitted_as env) (spelled_as Input text m spells form) ∙ ap (with_head env m) head
    ∙ (λ i. Numbered h (own_body m text spells i) (own_mark m text spells form i) (failed_edit env m))

led_by : (m : Content) → IsMessage m → m.form ≡ Input → leads 1500 m.tags ≡ true
led_by m sound form = subst (λ (f : Form). leads (first_of f) m.tags ≡ true) form sound.tags_sound.led

failed_stays : (env : ℕ) (m : Content) (k : ℕ) → IsMessage m → m.form ≡ Input → is_among (codes " P") k ≡ is_among (codes " P") (mark_in Input m.tags)
    → failed_edit env (marked_with k m) ≡ failed_edit env m
failed_stays env m k sound form marks = stays m.form m.breaks m.tags sound form marks
  where
    stays : (f : Form) (breaks : Breaks) (tags : List Tag) → IsMessage (record { form = f; breaks = breaks; tags = tags }) → f ≡ Input
        → is_among (codes " P") k ≡ is_among (codes " P") (mark_in Input tags)
        → failed_edit env (marked_with k (record { form = f; breaks = breaks; tags = tags })) ≡ failed_edit env (record { form = f; breaks = breaks; tags = tags })
    stays f breaks [] sound form marks = absurd (let wrong : false ≡ true = sound.tags_sound.led in cc)
    stays f breaks (v ∷ rest) sound form marks =
        let led : leads 1500 (v ∷ rest) ≡ true = led_by (record { form = f; breaks = breaks; tags = v ∷ rest }) sound form in
        let at : mark_place f ≡ 11 = ap mark_place form in
        let long : 11 < length v.fixed = subst (λ (n : ℕ). n < length v.fixed) at (first_place f v rest sound.tags_sound) in
        (λ i. failed_edit env (record { form = f; breaks = breaks; tags = with_first_byte (v ∷ rest) (at i) k }))
        ∙ ap (option_map edit) (edits_stay env f breaks v rest k led long marks)

-- the text with another mark
pub record IsMarked (env : ℕ) (h : Head) (body : List ℕ) (mark k : ℕ) (failed : Option Reject) : Type 0 where
  pub failed_now : Option Reject
  pub is : submission env (text_with k body) ≡ Numbered h body k failed_now
  pub same : is_among (codes " P") k ≡ is_among (codes " P") mark → failed_now ≡ failed

pub marked_again : (env : ℕ) (text : List ℕ) (h : Head) (body : List ℕ) (mark : ℕ) (failed : Option Reject) (k : ℕ)
    → submission env text ≡ Numbered h body mark failed → is_text_byte k ≡ true → IsMarked env h body mark k failed
marked_again env text h body mark failed k is text_byte =
    let n = numbered_from env text h body mark failed is in
    let m = n.message in
    let at : mark_byte m.form ≡ 17 = ap mark_byte n.is_input in
    let place : mark_place m.form ≡ 11 = ap mark_place n.is_input in
    let spells : Spells (marked_with k m) (set text 17 k) =
    subst (λ (p : ℕ). Spells (marked_with k m) (set text p k)) at (mark_spells m text k n.spells text_byte) in
    let long : 17 < length text =
    subst (λ (xs : List ℕ). 17 < length xs) (sym n.spells.spelled) (subst (λ (p : ℕ). p < length (message_spelling m)) at (mark_within m n.spells.sound)) in
    let head : head_of (marked_with k m) ≡ Ok h =
    head_stays m.tags (mark_place m.form) k (led_by m n.spells.sound n.is_input) ∙ n.head in
    let own : text_with k body ≡ set text 17 k = ap (λ (xs : List ℕ). set xs 17 k) n.body_is ∙ set_twice text 17 32 k in
    let body_same : set (set text 17 k) 17 32 ≡ body = set_twice text 17 k 32 ∙ sym n.body_is in
    let mark_same : get_or (set text 17 k) 17 0 ≡ k = get_or-set_same text 17 k 0 long in
    record {
      failed_now = failed_edit env (marked_with k m);
      is = ap (submission env) own ∙ numbered_as env (set text 17 k) (marked_with k m) h spells n.is_input head
          ∙ (λ i. Numbered h (body_same i) (mark_same i) (failed_edit env (marked_with k m)));
      same = λ marks. failed_stays env m k n.spells.sound n.is_input
          (marks ∙ ap (is_among (codes " P")) (n.mark_is ∙ sym (own_mark m text n.spells n.is_input))) ∙ sym n.failed_is;
    }

-- a body has a blank as its mark, and with its own mark it is the text again
pub own_blank : (env : ℕ) (text : List ℕ) (h : Head) (body : List ℕ) (mark : ℕ) (failed : Option Reject)
    → submission env text ≡ Numbered h body mark failed → text_with 32 body ≡ body
own_blank env text h body mark failed is =
    let n = numbered_from env text h body mark failed is in
    ap (λ (xs : List ℕ). set xs 17 32) n.body_is ∙ set_twice text 17 32 32 ∙ sym n.body_is
