-- The number of a tag, read from the front of bytes.
use Rattle.std.proofs.Common.{◌≡◌, ℕ, zero, suc, ◌+◌, ◌<◌, Bool, true, false, eqb, ◌||◌, List, [], ◌∷◌, length, get_or, drop, refl, ap, ◌∙◌, arith}
use Rattle.std.specs.Prelude.{nat_eq}
use Rattle.std.specs.List.{list_any, list_all, starts_with}
use Rattle.std.proofs.lemmas.Bool.{or_left, or_right, eq-eqb}
use Rattle.std.proofs.lemmas.List.{drop_more}
use Rattle.faim_base.specs.Tags.{is_tag_number}
use Rattle.faim_tags.specs.Spelling.{braced}
use Rattle.faim_tags.specs.Reading.{is_among}
use Rattle.faim_tags.specs.Steps.{numbers_begin}
use Rattle.faim_tags.proofs.Facts.{among_all}

-- a number at a place is among them
pub at_among : (ns : List ℕ) (k : ℕ) → k < length ns → is_among ns (get_or ns k 0) ≡ true
at_among [] k lt = absurd (omega arith)
at_among (n ∷ ns) zero lt = or_left (eqb n n) (list_any (λ m. eqb m n) ns) (eq-eqb n n refl)
at_among (n ∷ ns) (suc k) lt = or_right (eqb n (get_or ns k 0)) (list_any (λ m. eqb m (get_or ns k 0)) ns) (at_among ns k (omega arith))

-- one number further
pub numbers_more : (ns : List ℕ) (k : ℕ) (front : List ℕ) → k < length ns → starts_with nat_eq (braced (get_or ns k 0)) front ≡ false → numbers_begin (drop k ns) front ≡ numbers_begin (drop (k + 1) ns) front
numbers_more ns k front lt e =
    ap (λ (xs : List ℕ). numbers_begin xs front) (drop_more ns k 0 lt) ∙ ap (λ (t : Bool). t || numbers_begin (drop (k + 1) ns) front) e

-- one number that begins so is enough
pub numbers_one : (ns : List ℕ) (k : ℕ) (front : List ℕ) → k < length ns → starts_with nat_eq (braced (get_or ns k 0)) front ≡ true → numbers_begin (drop k ns) front ≡ true
numbers_one ns k front lt e =
    ap (λ (xs : List ℕ). numbers_begin xs front) (drop_more ns k 0 lt) ∙ ap (λ (t : Bool). t || numbers_begin (drop (k + 1) ns) front) e

-- a number that is found is a tag's
pub known_new : (ns : List ℕ) (n : ℕ) → list_all is_tag_number ns ≡ true → is_among ns n ≡ true → is_tag_number n ≡ true
known_new ns n h e = among_all is_tag_number ns n h e
