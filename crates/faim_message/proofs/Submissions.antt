-- What the text of a submission shows: its mark, its body, and the same submission with another mark.
use Rattle.std.proofs.Common.{◌≡◌, ℕ, zero, suc, ◌≤◌, true, false, get_or, set, List, [], ◌∷◌, length, Some, refl, sym, ap, subst, ◌∙◌, arith}
use Rattle.std.proofs.lemmas.Bool.{eqb-true, and_parts}
use Rattle.std.proofs.lemmas.List.{length-set, set-set, set-get_or, get_or-set_same}
use Rattle.faim_base.specs.Limits.{longest_message}
use Rattle.faim_base.specs.Text.{is_text_byte}
use Rattle.faim_tags.specs.Layouts.{classes, is_of_class}
use Rattle.faim_tags.specs.Spelling.{Tag, fill}
use Rattle.faim_message.specs.declared.form.Form.{Form}
use Rattle.faim_message.specs.declared.form.Form.TheVariants.{Input, Draft, Output, Ack}
use Rattle.faim_message.specs.Forms.{first_of}
use Rattle.faim_message.specs.Spelling.{Content, IsMessage, AreTags, Spells, message_spelling, mark_place, mark_byte, mark_in, with_first_byte, marked_with, body_text}
use Rattle.faim_message.specs.Heads.{head_in, head_of}
use Rattle.faim_message.specs.Decoded.{decoded}
use Rattle.faim_message.proofs.Lengths.{message_short}
use Rattle.faim_message.proofs.Duplication.{takes_mark}
use Rattle.faim_message.proofs.MarkBytes.{first_place, mark_within, mark_there, mark_alone, mark_spells}
use Rattle.faim_message.proofs.BodyTexts.{bodies_tell}
use Rattle.faim_message.proofs.Decodings.{decoded_spelled, spelled_as}

-- the first tag gives no part of a head
abbrev HeadKept : List Tag → Tag → List ℕ → ℕ → Type 0
HeadKept tags v fixed n = head_in (record v { no = n; fixed = fixed } ∷ tags) ≡ head_in (record v { no = n } ∷ tags)

head_kept_at : (form : Form) (tags : List Tag) (v : Tag) (fixed : List ℕ) → HeadKept tags v fixed (first_of form)
head_kept_at Input tags v fixed = refl
head_kept_at Draft tags v fixed = refl
head_kept_at Output tags v fixed = refl
head_kept_at Ack tags v fixed = refl

head_kept : (form : Form) (tags : List Tag) (k : ℕ) → AreTags form tags → head_in (with_first_byte tags (mark_place form) k) ≡ head_in tags
head_kept form [] k a = refl
head_kept form (v ∷ tags) k a =
    let fixed = set v.fixed (mark_place form) k in
    let P : ℕ → Type 0 = λ n. HeadKept tags v fixed n in
    subst P (sym (eqb-true v.no (first_of form) a.led)) (head_kept_at form tags v fixed)

-- the head is the same with any mark
pub same_head : (m : Content) (k : ℕ) → IsMessage m → head_of (marked_with k m) ≡ head_of m
same_head m k h = head_kept m.form m.tags k h.tags_sound

-- the body is the same with any mark
pub same_body : (m : Content) (k : ℕ) → IsMessage m → m.form ≡ Input → body_text (marked_with k m) ≡ body_text m
same_body m k h is =
    let place : message_spelling (marked_with k m) ≡ set (message_spelling m) 17 k = mark_alone m k h ∙ ap (λ (f : Form). set (message_spelling m) (mark_byte f) k) is in
    ap (λ (text : List ℕ). set text 17 32) place ∙ set-set (message_spelling m) 17 k 32

-- the mark of tags is the one that was put in
new_mark_in : (form : Form) (tags : List Tag) (k : ℕ) → AreTags form tags → mark_in form (with_first_byte tags (mark_place form) k) ≡ k
new_mark_in form [] k a = absurd (let wrong : false ≡ true = a.led in cc)
new_mark_in form (v ∷ tags) k a = get_or-set_same v.fixed (mark_place form) k 0 (first_place form v tags a)

pub new_mark : (m : Content) (k : ℕ) → IsMessage m → mark_in m.form (marked_with k m).tags ≡ k
new_mark m k h = new_mark_in m.form m.tags k h.tags_sound

-- a byte that stands where a text byte is wanted is one
text_there : (cs bytes : List ℕ) (place : ℕ) → fill cs bytes ≡ true → get_or cs place 0 ≡ 116 → is_text_byte (get_or bytes place 0) ≡ true
text_there [] bytes place filled class = absurd (omega (arith, class))
text_there (c ∷ cs) [] place filled class = absurd (let wrong : false ≡ true = filled in cc)
text_there (c ∷ cs) (b ∷ bytes) zero filled class =
    let P : ℕ → Type 0 = λ n. is_of_class n b ≡ true in
    subst P class (and_parts (is_of_class c b) (fill cs bytes) filled).0
text_there (c ∷ cs) (b ∷ bytes) (suc place) filled class = text_there cs bytes place (and_parts (is_of_class c b) (fill cs bytes) filled).1 class

text_mark : (form : Form) (tags : List Tag) → AreTags form tags → is_text_byte (mark_in form tags) ≡ true
text_mark form [] a = absurd (let wrong : false ≡ true = a.led in cc)
text_mark form (v ∷ tags) a = text_there (classes v.no) v.fixed (mark_place form) a.each.0.filled (takes_mark form (v ∷ tags) v a)

pub mark_is_text_byte : (m : Content) → IsMessage m → is_text_byte (mark_in m.form m.tags) ≡ true
mark_is_text_byte m h = text_mark m.form m.tags h.tags_sound

-- the mark is byte 17 of the text
pub mark_shown : (text : List ℕ) (m : Content) → decoded Input text ≡ Some m → mark_in m.form m.tags ≡ get_or text 17 0
mark_shown text m read =
    let s = decoded_spelled Input text m read in
    sym (mark_there m s.0.sound) ∙ ap (λ (f : Form). get_or (message_spelling m) (mark_byte f) 0) s.1 ∙ ap (λ (bytes : List ℕ). get_or bytes 17 0) (sym s.0.spelled)

-- with another mark it reads as the submission with that mark
pub reads_marked : (text : List ℕ) (m : Content) (k : ℕ) → decoded Input text ≡ Some m → is_text_byte k ≡ true → decoded Input (set text 17 k) ≡ Some (marked_with k m)
reads_marked text m k read t =
    let s = decoded_spelled Input text m read in
    let P : Form → Type 0 = λ f. Spells (marked_with k m) (set text (mark_byte f) k) in
    spelled_as Input (set text 17 k) (marked_with k m) (subst P s.1 (mark_spells m text k s.0 t)) s.1

-- the body's text
pub body_shown : (text : List ℕ) (m : Content) → decoded Input text ≡ Some m → body_text m ≡ set text 17 32
body_shown text m read = ap (λ (bytes : List ℕ). set bytes 17 32) (sym (decoded_spelled Input text m read).0.spelled)

pub body_reads_blank : (text : List ℕ) (m : Content) → decoded Input text ≡ Some m → decoded Input (body_text m) ≡ Some (marked_with 32 m)
body_reads_blank text m read = ap (decoded Input) (body_shown text m read) ∙ reads_marked text m 32 read refl

-- the body and the mark give the text back
pub text_back : (text : List ℕ) (m : Content) → decoded Input text ≡ Some m → set (body_text m) 17 (mark_in m.form m.tags) ≡ text
text_back text m read =
    ap (λ (body : List ℕ). set body 17 (mark_in m.form m.tags)) (body_shown text m read) ∙ set-set text 17 32 (mark_in m.form m.tags)
    ∙ ap (set text 17) (mark_shown text m read) ∙ set-get_or text 17 0

-- the body isn't empty, and it isn't longer than a message
pub body_some : (text : List ℕ) (m : Content) → decoded Input text ≡ Some m → 1 ≤ length (body_text m)
body_some text m read =
    let s = decoded_spelled Input text m read in
    omega (arith, mark_within m s.0.sound, length-set (message_spelling m) 17 32)

pub body_short : (text : List ℕ) (m : Content) → decoded Input text ≡ Some m → length (body_text m) ≤ longest_message
body_short text m read = message_short (marked_with 32 m) (body_text m) (decoded_spelled Input (body_text m) (marked_with 32 m) (body_reads_blank text m read)).0

-- one body, one message but for its mark
pub one_blank : (a b : List ℕ) (m w : Content) → decoded Input a ≡ Some m → decoded Input b ≡ Some w → body_text m ≡ body_text w → marked_with 32 m ≡ marked_with 32 w
one_blank a b m w read other same =
    let s = decoded_spelled Input a m read in
    let r = decoded_spelled Input b w other in
    (bodies_tell m w s.0.sound r.0.sound s.1 r.1).0 same

-- one body, one head
pub one_head : (a b : List ℕ) (m w : Content) → decoded Input a ≡ Some m → decoded Input b ≡ Some w → body_text m ≡ body_text w → head_of m ≡ head_of w
one_head a b m w read other same =
    sym (same_head m 32 (decoded_spelled Input a m read).0.sound) ∙ ap head_of (one_blank a b m w read other same) ∙ same_head w 32 (decoded_spelled Input b w other).0.sound

-- one body and one mark, one text
pub one_text : (a b : List ℕ) (m w : Content) → decoded Input a ≡ Some m → decoded Input b ≡ Some w → body_text m ≡ body_text w → mark_in m.form m.tags ≡ mark_in w.form w.tags → a ≡ b
one_text a b m w read other same mark =
    sym (text_back a m read) ∙ ap (λ (body : List ℕ). set body 17 (mark_in m.form m.tags)) same ∙ ap (set (body_text w) 17) mark ∙ text_back b w other
