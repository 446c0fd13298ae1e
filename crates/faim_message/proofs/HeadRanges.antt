-- The ranges of the parts of a head.
use Rattle.std.proofs.Common.{◌≡◌, ℕ, zero, suc, ◌<◌, ◌^◌, Bool, true, false, cond, eqb, ◌||◌, List, [], ◌∷◌, length, take, drop, replicate, Some, refl, sym, ap, subst, ◌∙◌, arith}
use Rattle.std.specs.Prelude.{◌==◌, Result, Ok, Err}
use Rattle.std.specs.List.{find, list_all}
use Rattle.std.proofs.lemmas.Bool.{and_parts, and_from, eqb-true}
use Rattle.std.proofs.lemmas.List.{take-append-drop, length-take-le, length-drop}
use Rattle.std.proofs.lemmas.List.Folds.{list_all-append}
use Rattle.faim_base.specs.Digits.{number_of}
use Rattle.faim_base.specs.Ids.{◌>>=◌, read_imad}
use Rattle.faim_base.specs.Numbers.{IsAmount, IsType}
use Rattle.faim_base.specs.Ranges.{IsAba, IsImad}
use Rattle.faim_base.specs.Text.{is_text_byte, is_digit}
use Rattle.faim_base.specs.declared.ids.Imad.{Imad}
use Rattle.faim_base.specs.declared.ids.IdFault.{IdFault}
use Rattle.faim_base.specs.declared.judgement.Head.{Head}
use Rattle.faim_base.proofs.DigitLemmas.{number_of_lt}
use Rattle.faim_base.proofs.IdLemmas.{imad_text-read_imad}
use Rattle.faim_tags.specs.Layouts.{classes, row_of}
use Rattle.faim_tags.specs.Spelling.{Tag, fill}
use Rattle.faim_tags.specs.Reading.{is_among}
use Rattle.faim_tags.proofs.Ends.{fill-run}
use Rattle.faim_message.specs.declared.form.Form.{Form}
use Rattle.faim_message.specs.declared.form.Form.TheVariants.{Input}
use Rattle.faim_message.specs.Forms.{mandatory}
use Rattle.faim_message.specs.Spelling.{Content, IsMessage, EachTag, numbers, is_complete}
use Rattle.faim_message.specs.Heads.{fixed_of, fixed_in, head_of}
use Rattle.faim_message.specs.Decoded.{decoded}
use Rattle.faim_message.proofs.Numbers.{all_at}
use Rattle.faim_message.proofs.Decodings.{decoded_spelled}

-- the fixed elements of a number that is there fill its classes
fixed_fills : (n : ℕ) (tags : List Tag) → EachTag tags → is_among (numbers tags) n ≡ true → fill (classes n) (fixed_in tags n) ≡ true
fixed_fills n [] each there = absurd (let wrong : false ≡ true = there in cc)
fixed_fills n (v ∷ tags) each there = here (λ h. fixed_fills n tags each.1 h) (eqb v.no n) refl there
  where
    here : (is_among (numbers tags) n ≡ true → fill (classes n) (fixed_in tags n) ≡ true) → (b : Bool) → eqb v.no n ≡ b → b || is_among (numbers tags) n ≡ true
        → fill (classes n) (fixed_of (cond b (Some v) (find (λ w. w.no == n) tags))) ≡ true
    here more true is there =
        let P : ℕ → Type 0 = λ k. fill (classes k) v.fixed ≡ true in
        subst P (eqb-true v.no n is) each.0.filled
    here more false is there = more there

-- so do those of a mandatory number
given : (m : Content) (n : ℕ) → IsMessage m → m.form ≡ Input → is_among (mandatory Input) n ≡ true → fill (classes n) (fixed_in m.tags n) ≡ true
given m n h is wanted =
    let P : Form → Type 0 = λ f. is_complete f m.tags ≡ true in
    fixed_fills n m.tags h.tags_sound.each (all_at (is_among (numbers m.tags)) (mandatory Input) n (subst P is h.complete) wanted)

-- digits, or text bytes, fill so many places of their class
all_digits : (n : ℕ) (bytes : List ℕ) → fill (replicate n 110) bytes ≡ true → list_all is_digit bytes ≡ true
all_digits n [] filled = refl
all_digits zero (b ∷ bytes) filled = absurd (let wrong : false ≡ true = filled in cc)
all_digits (suc n) (b ∷ bytes) filled =
    let p = and_parts (is_digit b) (fill (replicate n 110) bytes) filled in
    and_from (is_digit b) (list_all is_digit bytes) p.0 (all_digits n bytes p.1)

all_text : (n : ℕ) (bytes : List ℕ) → fill (replicate n 116) bytes ≡ true → list_all is_text_byte bytes ≡ true
all_text n [] filled = refl
all_text zero (b ∷ bytes) filled = absurd (let wrong : false ≡ true = filled in cc)
all_text (suc n) (b ∷ bytes) filled =
    let p = and_parts (is_text_byte b) (fill (replicate n 116) bytes) filled in
    and_from (is_text_byte b) (list_all is_text_byte bytes) p.0 (all_text n bytes p.1)

bank_is : (bytes : List ℕ) → fill (replicate 9 110) bytes ≡ true → IsAba bytes
bank_is bytes filled = ((fill-run (replicate 9 110) bytes filled).1, all_digits 9 bytes filled)

below : (bytes : List ℕ) (n : ℕ) → length bytes ≡ n → list_all is_digit bytes ≡ true → number_of bytes < 10 ^ n
below bytes n long digits = let P : ℕ → Type 0 = λ k. number_of bytes < 10 ^ k in subst P long (number_of_lt bytes digits)

-- the digits of a type and a subtype
two_and_two : (bytes : List ℕ) → fill (replicate 4 110) bytes ≡ true → IsType (number_of (take 2 bytes)) × IsType (number_of (drop 2 bytes))
two_and_two bytes filled =
    let long : length bytes ≡ 4 = (fill-run (replicate 4 110) bytes filled).1 in
    let parts = and_parts (list_all is_digit (take 2 bytes)) (list_all is_digit (drop 2 bytes))
    (sym (list_all-append is_digit (take 2 bytes) (drop 2 bytes)) ∙ ap (list_all is_digit) (take-append-drop 2 bytes) ∙ all_digits 4 bytes filled) in
    let kind : number_of (take 2 bytes) < 100 = below (take 2 bytes) 2 (length-take-le 2 bytes (omega (arith, long))) parts.0 in
    let sub : number_of (drop 2 bytes) < 100 = below (drop 2 bytes) 2 (omega (arith, length-drop 2 bytes, long)) parts.1 in
    (omega (arith, kind), omega (arith, sub))

-- the head with an identifier
abbrev with_id : List Tag → Imad → Head
with_id tags i = record {
  imad = i;
  sender = fixed_in tags 3100;
  receiver = fixed_in tags 3400;
  code = fixed_in tags 3600;
  kind = number_of (take 2 (fixed_in tags 1510));
  sub = number_of (drop 2 (fixed_in tags 1510));
  amount = number_of (fixed_in tags 2000);
}

by_id : (tags : List Tag) (h : Head) (r : Result Imad IdFault) → (r >>= λ i. Ok (with_id tags i)) ≡ Ok h → (i : Imad) × (r ≡ Ok i) × (with_id tags i ≡ h)
by_id tags h (Ok i) e = (i, refl, cc)
by_id tags h (Err fault) e = absurd cc

id_of : (m : Content) (h : Head) → head_of m ≡ Ok h → (i : Imad) × (read_imad (fixed_in m.tags 1520) ≡ Ok i) × (with_id m.tags i ≡ h)
id_of m h e = by_id m.tags h (read_imad (fixed_in m.tags 1520)) e

-- each part is in its range
pub record InRange (h : Head) : Type 0 where
  pub imad : IsImad h.imad
  pub sender : IsAba h.sender
  pub receiver : IsAba h.receiver
  pub code_length : length h.code ≡ 3
  pub code_text : list_all is_text_byte h.code ≡ true
  pub kind : IsType h.kind
  pub sub : IsType h.sub
  pub amount : IsAmount h.amount

pub in_range : (m : Content) (h : Head) → IsMessage m → m.form ≡ Input → head_of m ≡ Ok h → InRange h
unfolding row_of
in_range m h sound is e =
    let found = id_of m h e in
    let code = given m 3600 sound is refl in
    let type = two_and_two (fixed_in m.tags 1510) (given m 1510 sound is refl) in
    let amount = given m 2000 sound is refl in
    let long : length (fixed_in m.tags 2000) ≡ 12 = (fill-run (replicate 12 110) (fixed_in m.tags 2000) amount).1 in
    let cents : number_of (fixed_in m.tags 2000) < 1_000_000_000_000 = below (fixed_in m.tags 2000) 12 long (all_digits 12 (fixed_in m.tags 2000) amount) in
    let P : Head → Type 0 = λ k. InRange k in
    subst P found.2 (record {
      imad = (imad_text-read_imad (fixed_in m.tags 1520) found.0 (fill-run (classes 1520) (fixed_in m.tags 1520) (given m 1520 sound is refl)).1 found.1).1;
      sender = bank_is (fixed_in m.tags 3100) (given m 3100 sound is refl);
      receiver = bank_is (fixed_in m.tags 3400) (given m 3400 sound is refl);
      code_length = (fill-run (replicate 3 116) (fixed_in m.tags 3600) code).1;
      code_text = all_text 3 (fixed_in m.tags 3600) code;
      kind = type.0;
      sub = type.1;
      amount = omega (arith, cents);
    })

pub read_in_range : (text : List ℕ) (m : Content) (h : Head) → decoded Input text ≡ Some m → head_of m ≡ Ok h → InRange h
read_in_range text m h read e = let s = decoded_spelled Input text m read in in_range m h s.0.sound s.1 e
