-- A message with another mark.
use Rattle.std.proofs.Common.{◌≡◌, ℕ, zero, suc, true, false, get_or, set, List, [], ◌∷◌, refl, sym, subst}
use Rattle.std.proofs.lemmas.Bool.{and_parts, and_from, eqb-true}
use Rattle.faim_base.specs.Text.{is_text_byte}
use Rattle.faim_tags.specs.Layouts.{classes, is_of_class, row_of}
use Rattle.faim_tags.specs.Spelling.{Tag, IsTag, fill}
use Rattle.faim_message.specs.declared.form.Form.{Form}
use Rattle.faim_message.specs.declared.form.Form.TheVariants.{Input, Draft, Output, Ack}
use Rattle.faim_message.specs.declared.form.Breaks.{Breaks}
use Rattle.faim_message.specs.Forms.{first_of}
use Rattle.faim_message.specs.Spelling.{Content, IsMessage, AreTags, mark_place, with_first_byte, marked_with}

-- bytes stay of their classes where a text byte comes in
fill-set : (cs bytes : List ℕ) (place b : ℕ) → fill cs bytes ≡ true → get_or cs place 0 ≡ 116 → is_text_byte b ≡ true → fill cs (set bytes place b) ≡ true
fill-set [] [] place b f c t = f
fill-set [] (x ∷ bytes) place b f c t = absurd (let wrong : false ≡ true = f in cc)
fill-set (c ∷ cs) [] place b f e t = absurd (let wrong : false ≡ true = f in cc)
fill-set (c ∷ cs) (x ∷ bytes) zero b f e t =
    let P : ℕ → Type 0 = λ n. is_of_class n b ≡ true in
    and_from (is_of_class c b) (fill cs bytes) (subst P (sym e) t) (and_parts (is_of_class c x) (fill cs bytes) f).1
fill-set (c ∷ cs) (x ∷ bytes) (suc place) b f e t =
    let p = and_parts (is_of_class c x) (fill cs bytes) f in
    and_from (is_of_class c x) (fill cs (set bytes place b)) p.0 (fill-set cs bytes place b p.1 e t)

-- a tag stays one
pub IsTag-set : (v : Tag) (place b : ℕ) → IsTag v → get_or (classes v.no) place 0 ≡ 116 → is_text_byte b ≡ true → IsTag (record v { fixed = set v.fixed place b })
IsTag-set v place b h e t = record {
  listed = h.listed;
  filled = fill-set (classes v.no) v.fixed place b h.filled e t;
  fitting = h.fitting;
  something = h.something;
}

mark_is_text : (form : Form) → get_or (classes (first_of form)) (mark_place form) 0 ≡ 116
unfolding row_of
mark_is_text Input = refl
mark_is_text Draft = refl
mark_is_text Output = refl
mark_is_text Ack = refl

-- the mark of a message may be any text byte
pub takes_mark : (form : Form) (tags : List Tag) (d : Tag) → AreTags form tags → get_or (classes (get_or tags 0 d).no) (mark_place form) 0 ≡ 116
takes_mark form [] d a = absurd (let wrong : false ≡ true = a.led in cc)
takes_mark form (v ∷ tags) d a =
    let P : ℕ → Type 0 = λ n. get_or (classes n) (mark_place form) 0 ≡ 116 in
    subst P (sym (eqb-true v.no (first_of form) a.led)) (mark_is_text form)

marked_tags : (form : Form) (tags : List Tag) (b : ℕ) → AreTags form tags → is_text_byte b ≡ true → AreTags form (with_first_byte tags (mark_place form) b)
marked_tags form [] b a t = a
marked_tags form (v ∷ tags) b a t = record {
  each = (IsTag-set v (mark_place form) b a.each.0 (takes_mark form (v ∷ tags) v a) t, a.each.1);
  apart = a.apart;
  allowed = a.allowed;
  led = a.led;
}

-- a message stays one
pub IsMessage-marked : (m : Content) (b : ℕ) → IsMessage m → is_text_byte b ≡ true → IsMessage (marked_with b m)
IsMessage-marked m b h t = marked m.form m.breaks m.tags b h t
  where
    marked : (form : Form) (breaks : Breaks) (tags : List Tag) (b : ℕ) → IsMessage (record { form = form; breaks = breaks; tags = tags }) → is_text_byte b ≡ true → IsMessage (marked_with b (record { form = form; breaks = breaks; tags = tags }))
    marked form breaks [] b h t = h
    marked form breaks (v ∷ tags) b h t = record { tags_sound = marked_tags form (v ∷ tags) b h.tags_sound t; complete = h.complete }
