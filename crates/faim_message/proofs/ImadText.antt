-- An identifier's text fills the tag 1520.
use Rattle.std.proofs.Common.{◌≡◌, ℕ, zero, suc, true, false, not, List, [], ◌∷◌, ◌++◌, length, replicate, refl, ◌∙◌, arith}
use Rattle.std.specs.Prelude.{◌==◌}
use Rattle.std.specs.List.{list_all}
use Rattle.std.proofs.lemmas.Bool.{and_parts, and_from}
use Rattle.std.proofs.lemmas.List.Folds.{list_all-append}
use Rattle.faim_base.specs.Text.{is_text_byte, is_name_byte, is_digit, is_endpoint}
use Rattle.faim_base.specs.Digits.{padded}
use Rattle.faim_base.specs.Calendar.{date_text, civil_of}
use Rattle.faim_base.specs.Ids.{imad_text}
use Rattle.faim_base.specs.declared.ids.Imad.{Imad}
use Rattle.faim_base.proofs.DateLemmas.{length-date_text}
use Rattle.faim_base.proofs.DigitLemmas.{length-padded, list_all-padded}
use Rattle.faim_tags.specs.Layouts.{classes, is_of_class, row_of}
use Rattle.faim_tags.specs.Spelling.{fill}

fill-append : (cs ds xs ys : List ℕ) → fill cs xs ≡ true → fill ds ys ≡ true → fill (cs ++ ds) (xs ++ ys) ≡ true
fill-append [] ds [] ys e f = f
fill-append [] ds (x ∷ xs) ys e f = absurd (let wrong : false ≡ true = e in cc)
fill-append (c ∷ cs) ds [] ys e f = absurd (let wrong : false ≡ true = e in cc)
fill-append (c ∷ cs) ds (x ∷ xs) ys e f =
    let p = and_parts (is_of_class c x) (fill cs xs) e in
    and_from (is_of_class c x) (fill (cs ++ ds) (xs ++ ys)) p.0 (fill-append cs ds xs ys p.1 f)

fill-digits : (n : ℕ) (xs : List ℕ) → length xs ≡ n → list_all is_digit xs ≡ true → fill (replicate n 110) xs ≡ true
fill-digits zero [] l e = refl
fill-digits zero (x ∷ xs) l e = absurd (omega arith)
fill-digits (suc n) [] l e = absurd (omega arith)
fill-digits (suc n) (x ∷ xs) l e =
    let p = and_parts (is_digit x) (list_all is_digit xs) e in
    and_from (is_digit x) (fill (replicate n 110) xs) p.0 (fill-digits n xs (omega arith) p.1)

fill-names : (n : ℕ) (xs : List ℕ) → length xs ≡ n → is_endpoint xs ≡ true → fill (replicate n 116) xs ≡ true
fill-names zero [] l e = refl
fill-names zero (x ∷ xs) l e = absurd (omega arith)
fill-names (suc n) [] l e = absurd (omega arith)
fill-names (suc n) (x ∷ xs) l e =
    let p = and_parts (is_name_byte x) (list_all is_name_byte xs) e in
    let q = and_parts (is_text_byte x) (not (x == 32)) p.0 in
    and_from (is_text_byte x) (fill (replicate n 116) xs) q.0 (fill-names n xs (omega arith) p.1)

all_digits : (n : ℕ) → list_all is_digit (date_text n) ≡ true
unfolding date_text
all_digits n =
    let c = civil_of n in
    list_all-append is_digit (padded 4 c.year ++ padded 2 c.month) (padded 2 c.day)
    ∙ rw (list_all-append is_digit (padded 4 c.year) (padded 2 c.month), list_all-padded 4 c.year, list_all-padded 2 c.month, list_all-padded 2 c.day) refl

pub imad_fills : (i : Imad) → length i.source ≡ 8 → is_endpoint i.source ≡ true → fill (classes 1520) (imad_text i) ≡ true
unfolding row_of
imad_fills i l e =
    fill-append (replicate 8 110 ++ replicate 8 116) (replicate 6 110) (date_text i.date ++ i.source) (padded 6 i.seq)
    (fill-append (replicate 8 110) (replicate 8 116) (date_text i.date) i.source (fill-digits 8 (date_text i.date) (length-date_text i.date) (all_digits i.date)) (fill-names 8 i.source l e))
    (fill-digits 6 (padded 6 i.seq) (length-padded 6 i.seq) (list_all-padded 6 i.seq))
