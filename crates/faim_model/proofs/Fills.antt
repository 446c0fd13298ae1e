-- A host's own tags are tags of the format.
use Rattle.std.proofs.Common.{◌≡◌, refl, ap, ◌∙◌, ℕ, zero, suc, ◌==◌, ◌||◌, ◌&&◌, Bool, true, false, not, cond, List, [], ◌∷◌, ◌++◌, length, replicate, Some, is_some, option_map, arith}
use Rattle.std.specs.List.{find, list_all}
use Rattle.std.specs.Option.{unwrap_or}
use Rattle.std.proofs.lemmas.Bool.{and_parts, and_from, eqb-true}
use Rattle.std.proofs.lemmas.Bool.Decides.{nat_tests}
use Rattle.std.proofs.lemmas.List.Folds.{list_all-append}
use Rattle.faim_base.specs.declared.ids.Imad.{Imad}
use Rattle.faim_base.specs.declared.ids.OutPos.{OutPos}
use Rattle.faim_base.specs.declared.ids.Stamp.{Stamp}
use Rattle.faim_base.specs.declared.judgement.Reject.{Reject}
use Rattle.faim_base.specs.Calendar.{civil_of, date_text}
use Rattle.faim_base.specs.Digits.{padded}
use Rattle.faim_base.specs.Ids.{application, imad_text, stamp_of, stamp_text}
use Rattle.faim_base.specs.Ranges.{IsEndpoint}
use Rattle.faim_base.specs.Refusals.{is_recorded}
use Rattle.faim_base.specs.Text.{is_digit, is_name_byte, is_text_byte, is_endpoint}
use Rattle.faim_base.proofs.DateLemmas.{length-date_text}
use Rattle.faim_base.proofs.DigitLemmas.{length-padded, list_all-padded}
use Rattle.faim_tags.specs.Layouts.{is_of_class, row_of}
use Rattle.faim_tags.specs.Spelling.{IsTag, fill, fits}
use Rattle.faim_message.specs.Numbering.{imad_tag}
use Rattle.faim_message.proofs.ImadText.{imad_fills}
use Rattle.faim_edits.specs.Texts.{Listed, is_same, is_turned_away, listed, text_of}
use Rattle.faim_edits.proofs.Listing.{listed_where}
use Rattle.faim_model.specs.Deliveries.{next_tag}
use Rattle.faim_model.specs.ServiceTags.{moment_tag, output_tag, refusal_tag, status_tag}

-- fixed elements one after the other
fill_join : (cs ds xs ys : List ℕ) → fill cs xs ≡ true → fill ds ys ≡ true → fill (cs ++ ds) (xs ++ ys) ≡ true
fill_join [] ds [] ys e f = f
fill_join [] ds (x ∷ xs) ys e f = absurd (let wrong : false ≡ true = e in cc)
fill_join (c ∷ cs) ds [] ys e f = absurd (let wrong : false ≡ true = e in cc)
fill_join (c ∷ cs) ds (x ∷ xs) ys e f =
    let p = and_parts (is_of_class c x) (fill cs xs) e in
    and_from (is_of_class c x) (fill (cs ++ ds) (xs ++ ys)) p.0 (fill_join cs ds xs ys p.1 f)

fill_digits : (n : ℕ) (xs : List ℕ) → length xs ≡ n → list_all is_digit xs ≡ true → fill (replicate n 110) xs ≡ true
fill_digits zero [] l e = refl
fill_digits zero (x ∷ xs) l e = absurd (omega arith)
fill_digits (suc n) [] l e = absurd (omega arith)
fill_digits (suc n) (x ∷ xs) l e =
    let p = and_parts (is_digit x) (list_all is_digit xs) e in
    and_from (is_digit x) (fill (replicate n 110) xs) p.0 (fill_digits n xs (omega arith) p.1)

fill_names : (n : ℕ) (xs : List ℕ) → length xs ≡ n → is_endpoint xs ≡ true → fill (replicate n 116) xs ≡ true
fill_names zero [] l e = refl
fill_names zero (x ∷ xs) l e = absurd (omega arith)
fill_names (suc n) [] l e = absurd (omega arith)
fill_names (suc n) (x ∷ xs) l e =
    let p = and_parts (is_name_byte x) (list_all is_name_byte xs) e in
    let q = and_parts (is_text_byte x) (not (x == 32)) p.0 in
    and_from (is_text_byte x) (fill (replicate n 116) xs) q.0 (fill_names n xs (omega arith) p.1)

padded_fills : (width n : ℕ) → fill (replicate width 110) (padded width n) ≡ true
padded_fills width n = fill_digits width (padded width n) (length-padded width n) (list_all-padded width n)

date_digits : (n : ℕ) → list_all is_digit (date_text n) ≡ true
unfolding date_text
date_digits n =
    let c = civil_of n in
    list_all-append is_digit (padded 4 c.year ++ padded 2 c.month) (padded 2 c.day)
    ∙ rw (list_all-append is_digit (padded 4 c.year) (padded 2 c.month), list_all-padded 4 c.year, list_all-padded 2 c.month, list_all-padded 2 c.day) refl

date_fills : (n : ℕ) → fill (replicate 8 110) (date_text n) ≡ true
date_fills n = fill_digits 8 (date_text n) (length-date_text n) (date_digits n)

stamp_fills : (s : Stamp) → fill (replicate 8 110) (stamp_text s) ≡ true
stamp_fills s =
    fill_join (replicate 6 110) (replicate 2 110) (padded 2 s.month ++ padded 2 s.day ++ padded 2 s.hour) (padded 2 s.minute)
    (fill_join (replicate 4 110) (replicate 2 110) (padded 2 s.month ++ padded 2 s.day) (padded 2 s.hour)
    (fill_join (replicate 2 110) (replicate 2 110) (padded 2 s.month) (padded 2 s.day) (padded_fills 2 s.month) (padded_fills 2 s.day)) (padded_fills 2 s.hour))
    (padded_fills 2 s.minute)

pub status_is_tag : (env mark status : ℕ) → is_text_byte env ≡ true → is_text_byte mark ≡ true → is_text_byte status ≡ true → IsTag (status_tag env mark status)
unfolding row_of
status_is_tag env mark status e m s = record {
  listed = refl;
  filled = and_from (is_text_byte env) (is_text_byte mark && (is_text_byte status && true)) e (and_from (is_text_byte mark) (is_text_byte status && true) m (and_from (is_text_byte status) true s refl));
  fitting = refl;
  something = refl;
}

pub moment_is_tag : (moment : ℕ) → IsTag (moment_tag moment)
unfolding row_of
moment_is_tag moment = record {
  listed = refl;
  filled = fill_join (replicate 8 110) (replicate 4 116) (stamp_text (stamp_of moment)) application (stamp_fills (stamp_of moment)) refl;
  fitting = refl;
  something = refl;
}

pub output_is_tag : (at : OutPos) (e : List ℕ) (moment : ℕ) → IsEndpoint e → IsTag (output_tag at e moment)
unfolding row_of
output_is_tag at e moment sound =
    let stamp = stamp_text (stamp_of moment) in
    let named : fill (replicate 8 110 ++ replicate 8 116) (date_text at.date ++ e) ≡ true =
    fill_join (replicate 8 110) (replicate 8 116) (date_text at.date) e (date_fills at.date) (fill_names 8 e sound.0 sound.1) in
    let numbered = fill_join (replicate 8 110 ++ replicate 8 116) (replicate 6 110) (date_text at.date ++ e) (padded 6 at.seq) named (padded_fills 6 at.seq) in
    let stamped = fill_join (replicate 8 110 ++ replicate 8 116 ++ replicate 6 110) (replicate 8 110) (date_text at.date ++ e ++ padded 6 at.seq) stamp numbered (stamp_fills (stamp_of moment)) in
    record {
      listed = refl;
      filled = fill_join (replicate 8 110 ++ replicate 8 116 ++ replicate 6 110 ++ replicate 8 110) (replicate 4 116)
          (date_text at.date ++ e ++ padded 6 at.seq ++ stamp) application stamped refl;
      fitting = refl;
      something = refl;
    }

pub imad_is_tag : (imad : Imad) → IsEndpoint imad.source → IsTag (imad_tag (imad_text imad))
unfolding row_of
imad_is_tag imad sound = record { listed = refl; filled = imad_fills imad sound.0 sound.1; fitting = refl; something = refl }

-- each text that is listed fits its element, and so does none
text_fits : (p : Listed → Bool) (rows : List Listed) → list_all (λ l. fits 35 l.text) rows ≡ true → fits 35 (unwrap_or (option_map (λ (l : Listed). l.text) (find p rows)) []) ≡ true
text_fits p [] each = refl
text_fits p (l ∷ rows) each =
    let both = and_parts (fits 35 l.text) (list_all (λ k. fits 35 k.text) rows) each in
    here (p l) both.0 (text_fits p rows both.1)
  where
    here : (b : Bool) → fits 35 l.text ≡ true → fits 35 (unwrap_or (option_map (λ (k : Listed). k.text) (find p rows)) []) ≡ true
        → fits 35 (unwrap_or (option_map (λ (k : Listed). k.text) (cond b (Some l) (find p rows))) []) ≡ true
    here true own later = own
    here false own later = later

-- each letter that is listed is a text byte
letter_fits : (why : Reject) (rows : List Listed) → list_all (λ l. is_text_byte l.refusal.category) rows ≡ true
    → is_some (option_map (λ (l : Listed). l.text) (find (λ l. is_same why l.refusal) rows)) ≡ true → is_text_byte why.category ≡ true
letter_fits why [] each found = absurd (let wrong : false ≡ true = found in cc)
letter_fits why (l ∷ rows) each found =
    let both = and_parts (is_text_byte l.refusal.category) (list_all (λ k. is_text_byte k.refusal.category) rows) each in
    here (is_same why l.refusal) refl both.0 (letter_fits why rows both.1) found
  where
    here : (b : Bool) → is_same why l.refusal ≡ b → is_text_byte l.refusal.category ≡ true
        → (is_some (option_map (λ (k : Listed). k.text) (find (λ k. is_same why k.refusal) rows)) ≡ true → is_text_byte why.category ≡ true)
        → is_some (option_map (λ (k : Listed). k.text) (cond b (Some l) (find (λ k. is_same why k.refusal) rows))) ≡ true → is_text_byte why.category ≡ true
    here true same own later found =
        let letters : (why.category == l.refusal.category) ≡ true = (and_parts (why.category == l.refusal.category) (why.code == l.refusal.code) same).0 in
        ap is_text_byte (eqb-true why.category l.refusal.category letters) ∙ own
    here false same own later found = later found

pub refusal_is_tag : (why : Reject) → is_recorded why || is_turned_away why ≡ true → IsTag (refusal_tag why)
unfolding row_of
refusal_is_tag why known =
    let letter : is_text_byte why.category ≡ true = letter_fits why listed refl (listed_where why ∙ known) in
    let text : fits 35 (unwrap_or (text_of why) []) ≡ true = text_fits (λ l. is_same why l.refusal) listed refl in
    record {
      listed = refl;
      filled = and_from (is_text_byte why.category) (fill (replicate 3 110) (padded 3 why.code)) letter (padded_fills 3 why.code);
      fitting = and_from (fits 35 (unwrap_or (text_of why) [])) true text refl;
      something = refl;
    }

text_of_digits : (bytes : List ℕ) → list_all is_digit bytes ≡ true → list_all is_text_byte bytes ≡ true
text_of_digits [] all = refl
text_of_digits (b ∷ bytes) all =
    let both = and_parts (is_digit b) (list_all is_digit bytes) all in
    and_from (is_text_byte b) (list_all is_text_byte bytes) (digit_is_text b both.0) (text_of_digits bytes both.1)
  where
    digit_is_text : (b : ℕ) → is_digit b ≡ true → is_text_byte b ≡ true
    digit_is_text b digit = grind (arith, nat_tests)

pub next_is_tag : (date : ℕ) → IsTag (next_tag date)
unfolding row_of
next_is_tag date =
    let long = length-date_text date in
    let bytes : list_all is_text_byte (date_text date) ≡ true = text_of_digits (date_text date) (date_digits date) in
    record { listed = refl; filled = refl; fitting = rw (long, bytes) refl; something = refl }
