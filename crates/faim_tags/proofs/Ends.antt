-- Where a tag may end it is a tag, from each place in a tag some tag goes on, and each spelling is read to its end.
use Rattle.std.proofs.Common.{◌≡◌, ℕ, zero, suc, ◌+◌, ◌-◌, ◌/◌, ◌%◌, ◌<◌, ◌≤◌, Bool, true, false, cond, ltb, leb, eqb, not, ◌&&◌, List, [], ◌∷◌, ◌++◌, length, get_or, drop, replicate, Some, None, refl, sym, ap, subst, ◌∙◌, append_assoc, arith, inl, inr}
use Rattle.std.specs.Prelude.{nat_eq, if◌then◌else◌}
use Rattle.std.specs.List.{list_all, list_any, starts_with}
use Rattle.std.proofs.lemmas.Bool.{cases_lt, le-ltb, ltb-false, and_parts, and_from, and_right, or_cases, or_left, or_right, not-true, le-leb, eqb-true, eq-eqb}
use Rattle.std.proofs.lemmas.List.{append-nil, length_push, get_or_past}
use Rattle.faim_base.specs.Tags.{is_tag_number}
use Rattle.faim_base.specs.Text.{is_text_byte, is_digit}
use Rattle.faim_tags.specs.Layouts.{classes, maxima, is_of_class}
use Rattle.faim_tags.specs.Spelling.{Tag, IsTag, braced, spelling, starred, fits, all_fit, fill, is_empty}
use Rattle.faim_tags.specs.Reading.{is_among, BeginsTag}
use Rattle.faim_tags.specs.Steps.{Progress, InNumber, Inside, steps, may_end, tag_of, read_so_far, with_number, number_in}
use Rattle.faim_tags.specs.Parts.{run_length}
use Rattle.faim_tags.proofs.Facts.{room, some_element, starts_with-front, number_back}
use Rattle.faim_tags.proofs.Runs.{drop_parts, counted, steps-then, step-one, steps-fixed, steps-text, steps-closed}
use Rattle.faim_tags.proofs.Goods.{each_fit, all_fit-closed, all_fit-open, each_fit-push, starred-push, starred-open, AllListed, IsPart, IsGood, part-none, no_part}

zero_of_class : (c : ℕ) → is_of_class c 48 ≡ true
zero_of_class c = elim (eqb c 110) as (λ t. cond t (is_digit 48) (is_text_byte 48) ≡ true) [ true ↦ refl | false ↦ refl ]

-- zeros stand in every class
fill-on : (cs bytes : List ℕ) (k : ℕ) → run_length cs bytes ≡ length bytes → length bytes + k ≡ length cs → fill cs (bytes ++ replicate k 48) ≡ true
fill-on [] [] zero h e = refl
fill-on [] [] (suc k) h e = absurd (omega arith)
fill-on [] (b ∷ bytes) k h e = absurd (omega arith)
fill-on (c ∷ cs) [] zero h e = absurd (omega arith)
fill-on (c ∷ cs) [] (suc k) h e = and_from (is_of_class c 48) (fill cs (replicate k 48)) (zero_of_class c) (fill-on cs [] k (none cs) (omega arith))
  where
    none : (xs : List ℕ) → run_length xs [] ≡ 0
    none [] = refl
    none (x ∷ xs) = refl
fill-on (c ∷ cs) (b ∷ bytes) k h e =
    let p = counted (is_of_class c b) (run_length cs bytes) (length bytes) h in
    and_from (is_of_class c b) (fill cs (bytes ++ replicate k 48)) p.0 (fill-on cs bytes k p.1 (omega arith))

pub fill-whole : (cs bytes : List ℕ) → run_length cs bytes ≡ length bytes → length bytes ≡ length cs → fill cs bytes ≡ true
fill-whole cs bytes h e = let f = fill-on cs bytes 0 h (omega arith) in let P : List ℕ → Type 0 = λ t. fill cs t ≡ true in subst P (append-nil bytes) f

-- what fills the classes runs through them
pub fill-run : (cs bytes : List ℕ) → fill cs bytes ≡ true → (run_length cs bytes ≡ length bytes) × (length bytes ≡ length cs)
fill-run [] [] e = (refl, refl)
fill-run [] (b ∷ bytes) e = absurd cc
fill-run (c ∷ cs) [] e = absurd cc
fill-run (c ∷ cs) (b ∷ bytes) e =
    let p = and_parts (is_of_class c b) (fill cs bytes) e in
    let r = fill-run cs bytes p.1 in
    (rw p.0 (ap (λ (k : ℕ). suc k) r.0), ap (λ (k : ℕ). suc k) r.1)

not_empty : {X : Type 0} (xs : List X) (x : X) → is_empty (xs ++ x ∷ []) ≡ false
not_empty [] x = refl
not_empty (y ∷ xs) x = refl

all_fit-push : (most : List ℕ) (stars : List (List ℕ)) (s : List ℕ) → each_fit most (stars ++ s ∷ []) ≡ true → all_fit most (stars ++ s ∷ []) true ≡ true
all_fit-push most [] s h = all_fit-closed most s [] h
all_fit-push most (t ∷ stars) s h = all_fit-closed most t (stars ++ s ∷ []) h

-- the fixed elements are all there
full : (ns : List ℕ) (n : ℕ) (fixed : List ℕ) (stars : List (List ℕ)) (part : List ℕ) → IsPart ns n fixed stars part → length (classes n) ≤ length fixed → length fixed ≡ length (classes n)
full ns n fixed stars part h le = elim h.early [ inl e ↦ e | inr w ↦ absurd (omega (arith, w.0)) ]

-- a tag ends here, with these bytes
abbrev pub EndsHere : Progress → Type 0
EndsHere p = IsTag (tag_of p) × (spelling (tag_of p) ≡ read_so_far p)

over : (h f : List ℕ) → h ++ f ++ [] ≡ h ++ f ++ [] ++ []
over h f = simp append-nil

over-closed : (h f s : List ℕ) → h ++ f ++ s ≡ h ++ f ++ s ++ []
over-closed h f s = simp append-nil

over-open : (h f s p : List ℕ) → h ++ f ++ (s ++ p) ≡ h ++ f ++ s ++ p
over-open h f s p = simp append_assoc

end_cases : (l x : Bool) → cond l false x ≡ true → (l ≡ false) × (x ≡ true)
end_cases true x e = absurd cc
end_cases false x e = (refl, e)

pub ends : (ns : List ℕ) (n : ℕ) (fixed : List ℕ) (stars : List (List ℕ)) (part : List ℕ) → IsPart ns n fixed stars part → may_end (Inside n fixed stars part) ≡ true → EndsHere (Inside n fixed stars part)
ends ns n fixed [] [] h e =
    let c = end_cases (ltb (length fixed) (length (classes n))) (not (is_empty (classes n) && true)) e in
    let f = full ns n fixed [] [] h (ltb-false (length fixed) (length (classes n)) c.0) in
    (record { listed = h.listed; filled = fill-whole (classes n) fixed h.front f; fitting = refl; something = not-true (is_empty (classes n) && true) c.1 }, over (braced n) fixed)
ends ns n fixed (s ∷ stars) [] h e =
    let c = end_cases (ltb (length fixed) (length (classes n))) (not (is_empty (classes n) && false)) e in
    let f = full ns n fixed (s ∷ stars) [] h (ltb-false (length fixed) (length (classes n)) c.0) in
    (record { listed = h.listed; filled = fill-whole (classes n) fixed h.front f; fitting = all_fit-closed (maxima n) s stars h.each; something = and_right (is_empty (classes n)) false refl }, over-closed (braced n) fixed (starred (s ∷ stars) true))
ends ns n fixed stars (x ∷ part) h e =
    let c = end_cases (ltb (length fixed) (length (classes n))) (eqb (length (x ∷ part)) (get_or (maxima n) (length stars) 0)) e in
    let f = full ns n fixed stars (x ∷ part) h (ltb-false (length fixed) (length (classes n)) c.0) in
    let long = eqb-true (length (x ∷ part)) (get_or (maxima n) (length stars) 0) c.1 in
    let inside : length stars < length (maxima n) = elim (cases_lt (length stars) (length (maxima n))) [ inl lt ↦ lt | inr le ↦ absurd (omega (arith, get_or_past (maxima n) (length stars) 0 le)) ] in (
      record {
        listed = h.listed;
        filled = fill-whole (classes n) fixed h.front f;
        fitting = all_fit-open (maxima n) stars (x ∷ part) h.each h.texts inside long;
        something = and_right (is_empty (classes n)) (is_empty (stars ++ (x ∷ part) ∷ [])) (not_empty stars (x ∷ part));
      },
      ap (λ (t : List ℕ). braced n ++ fixed ++ t) (starred-open stars (x ∷ part)) ∙ over-open (braced n) fixed (starred stars true) (x ∷ part),
    )

onto-zeros : (h f z : List ℕ) → h ++ (f ++ z) ++ [] ≡ h ++ f ++ [] ++ [] ++ z
onto-zeros h f z = simp (append-nil, append_assoc)

onto-star : (h f s p : List ℕ) → h ++ f ++ (s ++ (p ++ 42 ∷ [])) ≡ h ++ f ++ s ++ p ++ 42 ∷ []
onto-star h f s p = simp append_assoc

-- the rest of the fixed elements is zeros
goes_fixed : (ns : List ℕ) (n : ℕ) (fixed : List ℕ) (k : ℕ) → IsPart ns n fixed [] [] → length fixed + suc k ≡ length (classes n) → BeginsTag ns (read_so_far (Inside n fixed [] []))
goes_fixed ns n fixed k h e = record {
  tag = record { no = n; fixed = fixed ++ replicate (suc k) 48; stars = []; closed = false };
  sound = record { listed = h.listed; filled = fill-on (classes n) fixed (suc k) h.front e; fitting = refl; something = some_class (classes n) (length fixed + k) (omega arith) };
  known = h.known;
  rest = replicate (suc k) 48;
  goes = onto-zeros (braced n) fixed (replicate (suc k) 48);
}
  where
    some_class : (cs : List ℕ) (j : ℕ) → length cs ≡ suc j → is_empty cs && true ≡ false
    some_class [] j e = absurd (omega arith)
    some_class (c ∷ cs) j e = refl

-- the star ends the element
goes_star : (ns : List ℕ) (n : ℕ) (fixed : List ℕ) (stars : List (List ℕ)) (part : List ℕ) → IsPart ns n fixed stars part → length fixed ≡ length (classes n) → length stars < length (maxima n) → BeginsTag ns (read_so_far (Inside n fixed stars part))
goes_star ns n fixed stars part h f lt = record {
  tag = record { no = n; fixed = fixed; stars = stars ++ part ∷ []; closed = true };
  sound = record {
    listed = h.listed;
    filled = fill-whole (classes n) fixed h.front f;
    fitting = all_fit-push (maxima n) stars part (each_fit-push (maxima n) stars part h.each lt (and_from (leb (length part) (get_or (maxima n) (length stars) 0)) (list_all is_text_byte part) (le-leb (length part) (get_or (maxima n) (length stars) 0) h.short) h.texts));
    something = and_right (is_empty (classes n)) (is_empty (stars ++ part ∷ [])) (not_empty stars part);
  };
  known = h.known;
  rest = 42 ∷ [];
  goes = ap (λ (t : List ℕ). braced n ++ fixed ++ t) (starred-push stars part) ∙ onto-star (braced n) fixed (starred stars true) part;
}

-- all star elements are there
goes_nowhere : (ns : List ℕ) (n : ℕ) (fixed : List ℕ) (stars : List (List ℕ)) → IsPart ns n fixed stars [] → may_end (Inside n fixed stars []) ≡ true → BeginsTag ns (read_so_far (Inside n fixed stars []))
goes_nowhere ns n fixed stars h e =
    let w = ends ns n fixed stars [] h e in
    record { tag = tag_of (Inside n fixed stars []); sound = w.0; known = h.known; rest = []; goes = w.1 ∙ sym (append-nil (read_so_far (Inside n fixed stars []))) }

nothing_left : (xs : List ℕ) → length xs ≤ 0 → xs ≡ []
nothing_left [] le = refl
nothing_left (x ∷ xs) le = absurd (omega arith)

-- with all star elements there a tag may end
all_there : (n : ℕ) (fixed : List ℕ) (stars : List (List ℕ)) → is_tag_number n ≡ true → length fixed ≡ length (classes n) → length (maxima n) ≤ length stars → may_end (Inside n fixed stars []) ≡ true
all_there n fixed stars e f le = rw (le-ltb (length fixed) (length (classes n)) (omega arith)) (some (classes n) (maxima n) stars (some_element n e) le)
  where
    some : (cs most : List ℕ) (ss : List (List ℕ)) → not (is_empty cs && is_empty most) ≡ true → length most ≤ length ss → not (is_empty cs && is_empty ss) ≡ true
    some [] [] ss x l = absurd cc
    some [] (m ∷ most) [] x l = absurd (omega arith)
    some [] (m ∷ most) (s ∷ ss) x l = refl
    some (c ∷ cs) most ss x l = refl

goes_on_full : (ns : List ℕ) (n : ℕ) (fixed : List ℕ) (stars : List (List ℕ)) (part : List ℕ) → IsPart ns n fixed stars part → length fixed ≡ length (classes n) → BeginsTag ns (read_so_far (Inside n fixed stars part))
goes_on_full ns n fixed stars part h f =
    elim (cases_lt (length stars) (length (maxima n))) [
      | inl lt ↦ goes_star ns n fixed stars part h f lt
      | inr le ↦
          let none = nothing_left part (omega (arith, get_or_past (maxima n) (length stars) 0 le)) in
          let P : List ℕ → Type 0 = λ t. IsPart ns n fixed stars t in
          let Q : List ℕ → Type 0 = λ t. BeginsTag ns (read_so_far (Inside n fixed stars t)) in
          subst Q (sym none) (goes_nowhere ns n fixed stars (subst P none h) (all_there n fixed stars h.listed f le))
    ]

pub part-begins : (ns : List ℕ) (n : ℕ) (fixed : List ℕ) (stars : List (List ℕ)) (part : List ℕ) → IsPart ns n fixed stars part → BeginsTag ns (read_so_far (Inside n fixed stars part))
part-begins ns n fixed stars part h =
    elim h.early [
      | inl e ↦ goes_on_full ns n fixed stars part h e
      | inr w ↦
          let P : List (List ℕ) → Type 0 = λ ss. IsPart ns n fixed ss part in
          let Q : List ℕ → Type 0 = λ p. IsPart ns n fixed [] p in
          let early = goes_fixed ns n fixed (length (classes n) - length fixed - 1) (subst Q w.2 (subst P w.1 h)) (omega (arith, w.0)) in
          rw (w.1, w.2) early
    ]

-- some tag goes on from what was read
pub good-begins : (ns : List ℕ) (p : Progress) → AllListed ns → IsGood ns p → BeginsTag ns (read_so_far p)
good-begins ns (InNumber given) all h =
    let b = part-begins ns h.number [] [] [] (part-none ns h.number h.known (all h.number h.known)) in
    record {
      tag = b.tag;
      sound = b.sound;
      known = b.known;
      rest = h.rest ++ b.rest;
      goes = b.goes ∙ ap (λ (t : List ℕ). t ++ b.rest) (no_part h.number ∙ h.whole) ∙ append_assoc given h.rest b.rest;
    }
good-begins ns (Inside n fixed stars part) all h = part-begins ns n fixed stars part h

-- the bytes are read to their end, and there the tag may end
pub record EndsAs (ns : List ℕ) (p : Progress) (bytes : List ℕ) (v : Tag) : Type 0 where
  pub last : Progress
  pub run : steps ns p bytes ≡ Some last
  pub tag : tag_of last ≡ v
  pub may : may_end last ≡ true

not_full : (n : ℕ) (fixed : List ℕ) (x : Bool) → length fixed ≡ length (classes n) → x ≡ true → cond (ltb (length fixed) (length (classes n))) false x ≡ true
not_full n fixed x f e = rw (le-ltb (length fixed) (length (classes n)) (omega arith)) e

-- the last element has its star
last_closed : (ns : List ℕ) (n : ℕ) (fixed : List ℕ) (before : List (List ℕ)) (s : List ℕ) → length fixed ≡ length (classes n) → length before < length (maxima n) → fits (get_or (maxima n) (length before) 0) s ≡ true → EndsAs ns (Inside n fixed before []) (s ++ 42 ∷ []) (record { no = n; fixed = fixed; stars = before ++ s ∷ []; closed = true })
last_closed ns n fixed before s f lt e = record {
  last = Inside n fixed (before ++ s ∷ []) [];
  run = steps-closed ns n fixed before s [] (omega arith) lt e;
  tag = ap (λ (t : Bool). record { no = n; fixed = fixed; stars = before ++ s ∷ []; closed = not t }) (not_empty before s);
  may = not_full n fixed (not (is_empty (classes n) && is_empty (before ++ s ∷ []))) f (ap not (and_right (is_empty (classes n)) (is_empty (before ++ s ∷ [])) (not_empty before s)));
}

-- the last element has its greatest length and no star
last_open : (ns : List ℕ) (n : ℕ) (fixed : List ℕ) (before : List (List ℕ)) (s : List ℕ) → is_tag_number n ≡ true → length fixed ≡ length (classes n) → length before < length (maxima n) → list_all is_text_byte s ≡ true → length s ≡ get_or (maxima n) (length before) 0 → EndsAs ns (Inside n fixed before []) s (record { no = n; fixed = fixed; stars = before ++ s ∷ []; closed = false })
last_open ns n fixed before [] e f lt t long = absurd (omega (arith, room n (length before) e lt))
last_open ns n fixed before (x ∷ s) e f lt t long = record {
  last = Inside n fixed before (x ∷ s);
  run = steps-text ns n fixed before [] (x ∷ s) (omega arith) t (omega arith);
  tag = refl;
  may = not_full n fixed (eqb (length (x ∷ s)) (get_or (maxima n) (length before) 0)) f (eq-eqb (length (x ∷ s)) (get_or (maxima n) (length before) 0) long);
}

-- star elements are read to their end
stars-end : (ns : List ℕ) (n : ℕ) (fixed : List ℕ) (before : List (List ℕ)) (s : List ℕ) (more : List (List ℕ)) (closed : Bool) (left : List ℕ) → is_tag_number n ≡ true → length fixed ≡ length (classes n) → drop (length before) (maxima n) ≡ left → all_fit left (s ∷ more) closed ≡ true → EndsAs ns (Inside n fixed before []) (starred (s ∷ more) closed) (record { no = n; fixed = fixed; stars = before ++ s ∷ more; closed = closed })
stars-end ns n fixed before s [] closed [] e f d h = absurd cc
stars-end ns n fixed before s (t ∷ more) closed [] e f d h = absurd cc
stars-end ns n fixed before s [] true (m ∷ left) e f d h =
    let w = drop_parts (maxima n) (length before) m left d in
    let p = and_parts (fits m s) true h in
    last_closed ns n fixed before s f w.0 (rw w.1 p.0)
stars-end ns n fixed before s [] false (m ∷ left) e f d h =
    let w = drop_parts (maxima n) (length before) m left d in
    let p = and_parts (fits m s) (eqb (length s) m) h in
    let q = and_parts (leb (length s) m) (list_all is_text_byte s) p.0 in
    let P : List ℕ → Type 0 = λ t. EndsAs ns (Inside n fixed before []) t (record { no = n; fixed = fixed; stars = before ++ s ∷ []; closed = false }) in
    subst P (sym (append-nil s)) (last_open ns n fixed before s e f w.0 q.1 (eqb-true (length s) m p.1 ∙ sym w.1))
stars-end ns n fixed before s (t ∷ more) closed (m ∷ left) e f d h =
    let w = drop_parts (maxima n) (length before) m left d in
    let p = and_parts (fits m s) (all_fit left (t ∷ more) closed) h in
    let next : drop (length (before ++ s ∷ [])) (maxima n) ≡ left = rw (length_push before s) w.2 in
    let on = stars-end ns n fixed (before ++ s ∷ []) t more closed left e f next p.1 in
    record {
      last = on.last;
      run = steps-closed ns n fixed before s (starred (t ∷ more) closed) (omega arith) w.0 (rw w.1 p.0) ∙ on.run;
      tag = on.tag ∙ ap (λ (x : List (List ℕ)). record { no = n; fixed = fixed; stars = x; closed = closed }) (append_assoc before (s ∷ []) (t ∷ more));
      may = on.may;
    }

any_from : (p : ℕ → Bool) (xs : List ℕ) (n : ℕ) → is_among xs n ≡ true → p n ≡ true → list_any p xs ≡ true
any_from p [] n e h = absurd cc
any_from p (x ∷ xs) n e h =
    elim (or_cases (eqb x n) (list_any (λ m. eqb m n) xs) e) [
      | inl same ↦ let x_is : x ≡ n = eqb-true x n same in let P : ℕ → Type 0 = λ m. p m ≡ true in or_left (p x) (list_any p xs) (subst P (sym x_is) h)
      | inr more ↦ or_right (p x) (list_any p xs) (any_from p xs n more h)
    ]

pub at_number : (ns : List ℕ) (n : ℕ) (given rest : List ℕ) → is_among ns n ≡ true → braced n ≡ given ++ rest → with_number ns given ≡ Some (if eqb (length given) 6 then Inside (number_in given) [] [] [] else InNumber given)
at_number ns n given rest e w =
    let P : List ℕ → Type 0 = λ t. starts_with nat_eq t given ≡ true in
    ap (λ (t : Bool). if t then Some (if eqb (length given) 6 then Inside (number_in given) [] [] [] else InNumber given) else None) (any_from (λ m. starts_with nat_eq (braced m) given) ns n e (subst P (sym w) (starts_with-front given rest)))

abbrev digit : ℕ → ℕ
digit d = 48 + d

pub number_run : (ns : List ℕ) (n : ℕ) → is_tag_number n ≡ true → is_among ns n ≡ true → steps ns (InNumber []) (braced n) ≡ Some (Inside n [] [] [])
number_run ns n l e = let a = digit (n / 1000) in let b = digit (n / 100 % 10) in let c = digit (n / 10 % 10) in let d = digit (n % 10) in
    step-one ns (InNumber []) (InNumber (123 ∷ [])) 123 (a ∷ b ∷ c ∷ d ∷ 125 ∷ []) (at_number ns n (123 ∷ []) (a ∷ b ∷ c ∷ d ∷ 125 ∷ []) e refl)
    ∙ step-one ns (InNumber (123 ∷ [])) (InNumber (123 ∷ a ∷ [])) a (b ∷ c ∷ d ∷ 125 ∷ []) (at_number ns n (123 ∷ a ∷ []) (b ∷ c ∷ d ∷ 125 ∷ []) e refl)
    ∙ step-one ns (InNumber (123 ∷ a ∷ [])) (InNumber (123 ∷ a ∷ b ∷ [])) b (c ∷ d ∷ 125 ∷ []) (at_number ns n (123 ∷ a ∷ b ∷ []) (c ∷ d ∷ 125 ∷ []) e refl)
    ∙ step-one ns (InNumber (123 ∷ a ∷ b ∷ [])) (InNumber (123 ∷ a ∷ b ∷ c ∷ [])) c (d ∷ 125 ∷ []) (at_number ns n (123 ∷ a ∷ b ∷ c ∷ []) (d ∷ 125 ∷ []) e refl)
    ∙ step-one ns (InNumber (123 ∷ a ∷ b ∷ c ∷ [])) (InNumber (123 ∷ a ∷ b ∷ c ∷ d ∷ [])) d (125 ∷ []) (at_number ns n (123 ∷ a ∷ b ∷ c ∷ d ∷ []) (125 ∷ []) e refl)
    ∙ step-one ns (InNumber (123 ∷ a ∷ b ∷ c ∷ d ∷ [])) (Inside n [] [] []) 125 [] (at_number ns n (braced n) [] e refl ∙ ap (λ (m : ℕ). Some (Inside m [] [] [])) (number_back n l))

fixed_run : (ns : List ℕ) (v : Tag) → IsTag v → steps ns (Inside v.no [] [] []) v.fixed ≡ Some (Inside v.no v.fixed [] [])
fixed_run ns v h = let r = fill-run (classes v.no) v.fixed h.filled in steps-fixed ns v.no [] (classes v.no) v.fixed [] [] refl r.0

pub front_run : (ns : List ℕ) (v : Tag) (more : List ℕ) → IsTag v → is_among ns v.no ≡ true → steps ns (InNumber []) (braced v.no ++ v.fixed ++ more) ≡ steps ns (Inside v.no v.fixed [] []) more
front_run ns v more h e =
    ap (steps ns (InNumber [])) (append_assoc (braced v.no) v.fixed more)
    ∙ steps-then ns (InNumber []) (Inside v.no [] [] []) (braced v.no) (v.fixed ++ more) (number_run ns v.no h.listed e)
    ∙ steps-then ns (Inside v.no [] [] []) (Inside v.no v.fixed [] []) v.fixed more (fixed_run ns v h)

-- from the number on
tail_ends : (ns : List ℕ) (n : ℕ) (fixed : List ℕ) (stars : List (List ℕ)) (closed : Bool) → IsTag (record { no = n; fixed = fixed; stars = stars; closed = closed }) → length fixed ≡ length (classes n) → EndsAs ns (Inside n fixed [] []) (starred stars closed) (record { no = n; fixed = fixed; stars = stars; closed = closed })
tail_ends ns n fixed [] true h f = absurd (wrong h.fitting)
  where
    wrong : not true ≡ true → ⊥
    wrong x = cc
tail_ends ns n fixed [] false h f = record {
  last = Inside n fixed [] [];
  run = refl;
  tag = refl;
  may = not_full n fixed (not (is_empty (classes n) && true)) f (ap not h.something);
}
tail_ends ns n fixed (s ∷ stars) closed h f = stars-end ns n fixed [] s stars closed (maxima n) h.listed f refl h.fitting

-- a spelling is read to its end, and gives its tag
pub spelling-ends : (ns : List ℕ) (v : Tag) → IsTag v → is_among ns v.no ≡ true → EndsAs ns (InNumber []) (spelling v) v
spelling-ends ns v h e =
    let r = fill-run (classes v.no) v.fixed h.filled in
    let t = tail_ends ns v.no v.fixed v.stars v.closed h r.1 in
    record { last = t.last; run = front_run ns v (starred v.stars v.closed) h e ∙ t.run; tag = t.tag; may = t.may }
