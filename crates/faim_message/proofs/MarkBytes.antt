-- The mark of a message is one byte of its text.
use Rattle.std.proofs.Common.{◌≡◌, ℕ, ◌+◌, ◌-◌, ◌<◌, false, true, get_or, set, List, [], ◌∷◌, ◌++◌, length, refl, sym, ap, subst, ◌∙◌, arith, length-append}
use Rattle.std.proofs.lemmas.Bool.{eqb-true}
use Rattle.std.proofs.lemmas.List.{set-append_left, set-append_right, get_or_append_left, get_or-append-add}
use Rattle.faim_base.specs.Text.{is_text_byte}
use Rattle.faim_tags.specs.Layouts.{classes, row_of}
use Rattle.faim_tags.specs.Spelling.{Tag, braced, spelling, starred}
use Rattle.faim_tags.proofs.Ends.{fill-run}
use Rattle.faim_message.specs.declared.form.Form.{Form}
use Rattle.faim_message.specs.declared.form.Form.TheVariants.{Input, Draft, Output, Ack}
use Rattle.faim_message.specs.Forms.{first_of, between, ending}
use Rattle.faim_message.specs.Spelling.{Content, IsMessage, AreTags, Spells, joined, message_spelling, mark_place, mark_byte, mark_in, with_first_byte, marked_with}
use Rattle.faim_message.proofs.Duplication.{IsMessage-marked}

-- it stands among the fixed bytes of the form's first tag, whose number in braces has six bytes
mark_stands : (form : Form) → (mark_place form < length (classes (first_of form))) × (mark_byte form ≡ 6 + mark_place form)
unfolding row_of
mark_stands Input = (let long : length (classes 1500) ≡ 12 = refl in omega (arith, long), refl)
mark_stands Draft = (let long : length (classes 1500) ≡ 12 = refl in omega (arith, long), refl)
mark_stands Output = (let long : length (classes 1100) ≡ 5 = refl in omega (arith, long), refl)
mark_stands Ack = (let long : length (classes 1100) ≡ 5 = refl in omega (arith, long), refl)

pub first_place : (form : Form) (v : Tag) (tags : List Tag) → AreTags form (v ∷ tags) → mark_place form < length v.fixed
first_place form v tags a =
    let P : ℕ → Type 0 = λ n. mark_place form < length (classes n) in
    let fixed : length v.fixed ≡ length (classes v.no) = (fill-run (classes v.no) v.fixed a.each.0.filled).1 in
    let short : mark_place form < length (classes v.no) = subst P (sym (eqb-true v.no (first_of form) a.led)) (mark_stands form).0 in
    omega (arith, fixed, short)

spelled_length : (v : Tag) → length (spelling v) ≡ 6 + length v.fixed + length (starred v.stars v.closed)
spelled_length v = omega (arith, length-append (braced v.no ++ v.fixed) (starred v.stars v.closed), length-append (braced v.no) v.fixed)

-- the first tag comes first in the text
joined_as : (sep end : List ℕ) (v : Tag) (tags : List Tag) → (rest : List ℕ) × (joined sep end (v ∷ tags) ≡ spelling v ++ rest)
joined_as sep end v [] = (end, refl)
joined_as sep end v (w ∷ tags) = (sep ++ joined sep end (w ∷ tags), refl)

-- a byte of a tag's fixed elements is set
tag_set : (v : Tag) (place b : ℕ) → place < length v.fixed → spelling (record v { fixed = set v.fixed place b }) ≡ set (spelling v) (6 + place) b
tag_set v place b lt =
    let back : 6 + place - 6 ≡ place = omega arith in
    let front : set (braced v.no ++ v.fixed) (6 + place) b ≡ braced v.no ++ set v.fixed place b =
    set-append_right (braced v.no) v.fixed 6 (6 + place) b refl (omega arith) ∙ ap (λ (k : ℕ). braced v.no ++ set v.fixed k b) back in
    ap (λ (bytes : List ℕ). bytes ++ starred v.stars v.closed) (sym front) ∙ sym (set-append_left (braced v.no ++ v.fixed) (starred v.stars v.closed) (6 + place) b (omega (arith, length-append (braced v.no) v.fixed)))

joined_set : (sep end : List ℕ) (v : Tag) (tags : List Tag) (place b : ℕ) → place < length v.fixed → joined sep end (with_first_byte (v ∷ tags) place b) ≡ set (joined sep end (v ∷ tags)) (6 + place) b
joined_set sep end v [] place b lt =
    ap (λ (bytes : List ℕ). bytes ++ end) (tag_set v place b lt) ∙ sym (set-append_left (spelling v) end (6 + place) b (omega (arith, spelled_length v)))
joined_set sep end v (w ∷ tags) place b lt =
    ap (λ (bytes : List ℕ). bytes ++ (sep ++ joined sep end (w ∷ tags))) (tag_set v place b lt)
    ∙ sym (set-append_left (spelling v) (sep ++ joined sep end (w ∷ tags)) (6 + place) b (omega (arith, spelled_length v)))

text_set : (form : Form) (sep end : List ℕ) (tags : List Tag) (b : ℕ) → AreTags form tags → joined sep end (with_first_byte tags (mark_place form) b) ≡ set (joined sep end tags) (mark_byte form) b
text_set form sep end [] b a = absurd (let wrong : false ≡ true = a.led in cc)
text_set form sep end (v ∷ tags) b a =
    joined_set sep end v tags (mark_place form) b (first_place form v tags a)
    ∙ ap (λ (k : ℕ). set (joined sep end (v ∷ tags)) k b) (sym (mark_stands form).1)

text_within : (form : Form) (sep end : List ℕ) (tags : List Tag) → AreTags form tags → mark_byte form < length (joined sep end tags)
text_within form sep end [] a = absurd (let wrong : false ≡ true = a.led in cc)
text_within form sep end (v ∷ tags) a =
    let j = joined_as sep end v tags in
    let long : length (joined sep end (v ∷ tags)) ≡ length (spelling v) + length j.0 = ap length j.1 ∙ length-append (spelling v) j.0 in
    omega (arith, long, spelled_length v, first_place form v tags a, (mark_stands form).1)

text_at : (form : Form) (sep end : List ℕ) (tags : List Tag) → AreTags form tags → get_or (joined sep end tags) (mark_byte form) 0 ≡ mark_in form tags
text_at form sep end [] a = absurd (let wrong : false ≡ true = a.led in cc)
text_at form sep end (v ∷ tags) a =
    let j = joined_as sep end v tags in
    let place = mark_place form in
    let lt = first_place form v tags a in
    ap (λ (k : ℕ). get_or (joined sep end (v ∷ tags)) k 0) (mark_stands form).1
    ∙ ap (λ (text : List ℕ). get_or text (6 + place) 0) j.1
    ∙ get_or_append_left (spelling v) j.0 0 (6 + place) (omega (arith, spelled_length v, lt))
    ∙ get_or_append_left (braced v.no ++ v.fixed) (starred v.stars v.closed) 0 (6 + place) (omega (arith, length-append (braced v.no) v.fixed, lt))
    ∙ get_or-append-add (braced v.no) v.fixed place 0

-- the byte is there, and it is the mark
pub mark_within : (m : Content) → IsMessage m → mark_byte m.form < length (message_spelling m)
mark_within m h = text_within m.form (between m.breaks) (ending m.breaks) m.tags h.tags_sound

pub mark_there : (m : Content) → IsMessage m → get_or (message_spelling m) (mark_byte m.form) 0 ≡ mark_in m.form m.tags
mark_there m h = text_at m.form (between m.breaks) (ending m.breaks) m.tags h.tags_sound

-- another mark changes it alone
pub mark_alone : (m : Content) (b : ℕ) → IsMessage m → message_spelling (marked_with b m) ≡ set (message_spelling m) (mark_byte m.form) b
mark_alone m b h = text_set m.form (between m.breaks) (ending m.breaks) m.tags b h.tags_sound

pub mark_spells : (m : Content) (text : List ℕ) (b : ℕ) → Spells m text → is_text_byte b ≡ true → Spells (marked_with b m) (set text (mark_byte m.form) b)
mark_spells m text b h t = record {
  sound = IsMessage-marked m b h.sound t;
  spelled = ap (λ (bytes : List ℕ). set bytes (mark_byte m.form) b) h.spelled ∙ sym (mark_alone m b h.sound);
}
