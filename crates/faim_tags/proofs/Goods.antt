-- What has been read so far keeps the rules, and some tag goes on from it.
use Rattle.std.proofs.Common.{◌≡◌, ℕ, zero, suc, ◌+◌, ◌<◌, ◌≤◌, Bool, true, false, cond, ltb, leb, eqb, ◌&&◌, ◌⊎◌, List, [], ◌∷◌, ◌++◌, length, get_or, drop, Option, Some, None, refl, sym, ap, subst, ◌∙◌, append_assoc, arith, inl, inr}
use Rattle.std.specs.Prelude.{nat_eq}
use Rattle.std.specs.List.{list_all, starts_with}
use Rattle.std.proofs.lemmas.Bool.{cases_lt, ltb-true, ltb-false, and_parts, and_from, le-leb, eqb-true, eqb-false}
use Rattle.std.proofs.lemmas.Bool.Decides.{nat_tests}
use Rattle.std.proofs.lemmas.List.{append-nil, length_push, length-append}
use Rattle.faim_base.specs.Tags.{is_tag_number}
use Rattle.faim_base.specs.Text.{is_text_byte}
use Rattle.faim_tags.specs.Layouts.{classes, maxima, is_of_class}
use Rattle.faim_tags.specs.Spelling.{braced, starred, fits, all_fit}
use Rattle.faim_tags.specs.Reading.{is_among}
use Rattle.faim_tags.specs.Steps.{Progress, InNumber, Inside, step, steps, read_so_far, numbers_begin, number_in}
use Rattle.faim_tags.specs.Parts.{run_length}
use Rattle.faim_tags.proofs.Facts.{any_found, starts_with-split, number_back}
use Rattle.faim_tags.proofs.Runs.{starred-cons, counted}

-- each star element fits
abbrev pub each_fit : List ℕ → List (List ℕ) → Bool
each_fit most [] = true
each_fit [] (s ∷ stars) = false
each_fit (m ∷ most) (s ∷ stars) = fits m s && each_fit most stars

pub all_fit-closed : (most : List ℕ) (s : List ℕ) (stars : List (List ℕ)) → each_fit most (s ∷ stars) ≡ true → all_fit most (s ∷ stars) true ≡ true
all_fit-closed [] s stars h = h
all_fit-closed (m ∷ most) s [] h = let p = and_parts (fits m s) true h in and_from (fits m s) true p.0 refl
all_fit-closed (m ∷ most) s (t ∷ stars) h =
    let p = and_parts (fits m s) (each_fit most (t ∷ stars)) h in
    and_from (fits m s) (all_fit most (t ∷ stars) true) p.0 (all_fit-closed most t stars p.1)

pub all_fit-open : (most : List ℕ) (stars : List (List ℕ)) (s : List ℕ) → each_fit most stars ≡ true → list_all is_text_byte s ≡ true → length stars < length most → length s ≡ get_or most (length stars) 0 → all_fit most (stars ++ s ∷ []) false ≡ true
all_fit-open [] stars s h t lt e = absurd (omega arith)
all_fit-open (m ∷ most) [] s h t lt e = and_from (fits m s) (eqb (length s) m) (and_from (leb (length s) m) (list_all is_text_byte s) (le-leb (length s) m (omega arith)) t) (grind (arith, nat_tests))
all_fit-open (m ∷ most) (r ∷ []) s h t lt e =
    let p = and_parts (fits m r) true h in
    and_from (fits m r) (all_fit most (s ∷ []) false) p.0 (all_fit-open most [] s refl t (omega arith) e)
all_fit-open (m ∷ most) (r ∷ q ∷ stars) s h t lt e =
    let p = and_parts (fits m r) (each_fit most (q ∷ stars)) h in
    and_from (fits m r) (all_fit most (q ∷ (stars ++ s ∷ [])) false) p.0 (all_fit-open most (q ∷ stars) s p.1 t (omega arith) e)

pub each_fit-push : (most : List ℕ) (stars : List (List ℕ)) (s : List ℕ) → each_fit most stars ≡ true → length stars < length most → fits (get_or most (length stars) 0) s ≡ true → each_fit most (stars ++ s ∷ []) ≡ true
each_fit-push [] stars s h lt f = absurd (omega arith)
each_fit-push (m ∷ most) [] s h lt f = and_from (fits m s) true f refl
each_fit-push (m ∷ most) (r ∷ stars) s h lt f =
    let p = and_parts (fits m r) (each_fit most stars) h in
    and_from (fits m r) (each_fit most (stars ++ s ∷ [])) p.0 (each_fit-push most stars s p.1 (omega arith) f)

pub starred-push : (stars : List (List ℕ)) (s : List ℕ) → starred (stars ++ s ∷ []) true ≡ starred stars true ++ (s ++ 42 ∷ [])
starred-push [] s = refl
starred-push (r ∷ stars) s =
    starred-cons r (stars ++ s ∷ []) ∙ ap (λ (t : List ℕ). r ++ 42 ∷ t) (starred-push stars s)
    ∙ sym (ap (λ (t : List ℕ). t ++ (s ++ 42 ∷ [])) (starred-cons r stars) ∙ append_assoc r (42 ∷ starred stars true) (s ++ 42 ∷ []))

pub starred-open : (stars : List (List ℕ)) (s : List ℕ) → starred (stars ++ s ∷ []) false ≡ starred stars true ++ s
starred-open [] s = append-nil s
starred-open (r ∷ []) s = ap (λ (t : List ℕ). r ++ 42 ∷ t) (append-nil s) ∙ sym (append_assoc r (42 ∷ []) s)
starred-open (r ∷ q ∷ stars) s =
    ap (λ (t : List ℕ). r ++ 42 ∷ t) (starred-open (q ∷ stars) s) ∙ sym (append_assoc r (42 ∷ starred (q ∷ stars) true) s)

pub run_length-push : (cs bytes : List ℕ) (b : ℕ) → run_length cs bytes ≡ length bytes → length bytes < length cs → is_of_class (get_or cs (length bytes) 0) b ≡ true → run_length cs (bytes ++ b ∷ []) ≡ length (bytes ++ b ∷ [])
run_length-push [] bytes b h lt e = absurd (omega arith)
run_length-push (c ∷ cs) [] b h lt e = rw e (ap (λ (k : ℕ). suc k) (none cs))
  where
    none : (xs : List ℕ) → run_length xs [] ≡ 0
    none [] = refl
    none (x ∷ xs) = refl
run_length-push (c ∷ cs) (a ∷ bytes) b h lt e =
    let p = counted (is_of_class c a) (run_length cs bytes) (length bytes) h in
    rw p.0 (ap (λ (k : ℕ). suc k) (run_length-push cs bytes b p.1 (omega arith) e))

pub list_all-push : (bytes : List ℕ) (b : ℕ) → list_all is_text_byte bytes ≡ true → is_text_byte b ≡ true → list_all is_text_byte (bytes ++ b ∷ []) ≡ true
list_all-push [] b h e = and_from (is_text_byte b) true e refl
list_all-push (a ∷ bytes) b h e =
    let p = and_parts (is_text_byte a) (list_all is_text_byte bytes) h in
    and_from (is_text_byte a) (list_all is_text_byte (bytes ++ b ∷ [])) p.0 (list_all-push bytes b p.1 e)

-- each of the numbers is a tag's
abbrev pub AllListed : List ℕ → Type 0
AllListed ns = (n : ℕ) → is_among ns n ≡ true → is_tag_number n ≡ true

-- part of a tag's number in braces
pub record IsFront (ns given : List ℕ) : Type 0 where
  pub number : ℕ
  pub known : is_among ns number ≡ true
  pub rest : List ℕ
  pub whole : braced number ≡ given ++ rest
  pub more : 0 < length rest

-- part of a tag after its number
pub record IsPart (ns : List ℕ) (n : ℕ) (fixed : List ℕ) (stars : List (List ℕ)) (part : List ℕ) : Type 0 where
  pub known : is_among ns n ≡ true
  pub listed : is_tag_number n ≡ true
  pub front : run_length (classes n) fixed ≡ length fixed
  pub early : (length fixed ≡ length (classes n)) ⊎ ((length fixed < length (classes n)) × (stars ≡ []) × (part ≡ []))
  pub each : each_fit (maxima n) stars ≡ true
  pub texts : list_all is_text_byte part ≡ true
  pub short : length part ≤ get_or (maxima n) (length stars) 0

abbrev pub IsGood : List ℕ → Progress → Type 0
IsGood ns (InNumber given) = IsFront ns given
IsGood ns (Inside n fixed stars part) = IsPart ns n fixed stars part

pub run_length-none : (cs : List ℕ) → run_length cs [] ≡ 0
run_length-none [] = refl
run_length-none (c ∷ cs) = refl

zero_or_more : (k : ℕ) → (0 ≡ k) ⊎ (0 < k)
zero_or_more zero = inl refl
zero_or_more (suc k) = inr (omega arith)

pub part-none : (ns : List ℕ) (n : ℕ) → is_among ns n ≡ true → is_tag_number n ≡ true → IsPart ns n [] [] []
part-none ns n known listed = record {
  known = known;
  listed = listed;
  front = run_length-none (classes n);
  early = elim (zero_or_more (length (classes n))) [ inl e ↦ inl e | inr lt ↦ inr (lt, refl, refl) ];
  each = refl;
  texts = refl;
  short = omega arith;
}

-- a step and the bytes that were read by it
abbrev pub Takes : List ℕ → Progress → ℕ → Progress → Type 0
Takes ns p b q = IsGood ns q × (read_so_far q ≡ read_so_far p ++ b ∷ [])

number_cases : (t u : Bool) (x y q : Progress) → cond t (Some (cond u x y)) None ≡ Some q → (t ≡ true) × (((u ≡ true) × (x ≡ q)) ⊎ ((u ≡ false) × (y ≡ q)))
number_cases true true x y q e = (refl, inl (refl, cc))
number_cases true false x y q e = (refl, inr (refl, cc))
number_cases false u x y q e = absurd cc

pub inside_cases : (l t s u v : Bool) (x y z q : Progress) → cond l (cond t (Some x) None) (cond s (cond u (Some y) None) (cond v (Some z) None)) ≡ Some q
    → ((l ≡ true) × (t ≡ true) × (x ≡ q)) ⊎ (((l ≡ false) × (s ≡ true) × (u ≡ true) × (y ≡ q)) ⊎ ((l ≡ false) × (s ≡ false) × (v ≡ true) × (z ≡ q)))
inside_cases true true s u v x y z q e = inl (refl, refl, cc)
inside_cases true false s u v x y z q e = absurd cc
inside_cases false t true true v x y z q e = inr (inl (refl, refl, refl, cc))
inside_cases false t true false v x y z q e = absurd cc
inside_cases false t false u true x y z q e = inr (inr (refl, refl, refl, cc))
inside_cases false t false u false x y z q e = absurd cc

-- the number goes on
takes-front : (ns given : List ℕ) (b : ℕ) → (m : ℕ) → is_among ns m ≡ true → starts_with nat_eq (braced m) (given ++ b ∷ []) ≡ true → eqb (length (given ++ b ∷ [])) 6 ≡ false → IsFront ns (given ++ b ∷ [])
takes-front ns given b m known e short =
    let whole = starts_with-split (given ++ b ∷ []) (braced m) e in
    let len : 6 ≡ length (given ++ b ∷ []) + length (drop (length (given ++ b ∷ [])) (braced m)) = ap length whole ∙ length-append (given ++ b ∷ []) (drop (length (given ++ b ∷ [])) (braced m)) in
    let ne = eqb-false (length (given ++ b ∷ [])) 6 short in
    record { number = m; known = known; rest = drop (length (given ++ b ∷ [])) (braced m); whole = whole; more = grind arith }

none_left : (xs : List ℕ) → length xs ≡ 0 → xs ≡ []
none_left [] e = refl
none_left (x ∷ xs) e = absurd (omega arith)

-- the number is whole
pub whole_number : (given : List ℕ) (m : ℕ) → starts_with nat_eq (braced m) given ≡ true → length given ≡ 6 → given ≡ braced m
whole_number given m e six =
    let whole = starts_with-split given (braced m) e in
    let len : 6 ≡ length given + length (drop (length given) (braced m)) = ap length whole ∙ length-append given (drop (length given) (braced m)) in
    let over = none_left (drop (length given) (braced m)) (omega arith) in
    sym (whole ∙ ap (λ (t : List ℕ). given ++ t) over ∙ append-nil given)

pub no_part : (n : ℕ) → read_so_far (Inside n [] [] []) ≡ braced n
no_part n = refl

pub step-number : (ns given : List ℕ) (b : ℕ) (q : Progress) → AllListed ns → step ns (InNumber given) b ≡ Some q → Takes ns (InNumber given) b q
step-number ns given b q all e =
    let c = number_cases (numbers_begin ns (given ++ b ∷ [])) (eqb (length (given ++ b ∷ [])) 6) (Inside (number_in (given ++ b ∷ [])) [] [] []) (InNumber (given ++ b ∷ [])) q e in
    let f = any_found (λ n. starts_with nat_eq (braced n) (given ++ b ∷ [])) ns c.0 in
    elim c.1 [
      | inl w ↦
          let g = whole_number (given ++ b ∷ []) f.0 f.2 (eqb-true (length (given ++ b ∷ [])) 6 w.0) in
          let back : number_in (given ++ b ∷ []) ≡ f.0 = ap number_in g ∙ number_back f.0 (all f.0 f.1) in
          let is : Inside f.0 [] [] [] ≡ q = sym (ap (λ (n : ℕ). Inside n [] [] []) back) ∙ w.1 in
          subst (λ (r : Progress). Takes ns (InNumber given) b r) is (part-none ns f.0 f.1 (all f.0 f.1), no_part f.0 ∙ sym g)
      | inr w ↦ subst (λ (r : Progress). Takes ns (InNumber given) b r) w.1 (takes-front ns given b f.0 f.1 f.2 w.0, refl)
    ]

regroup-fixed : (h f : List ℕ) (b : ℕ) → h ++ (f ++ b ∷ []) ++ [] ++ [] ≡ h ++ f ++ [] ++ [] ++ b ∷ []
regroup-fixed h f b = simp (append-nil, append_assoc)

regroup-star : (h f s p : List ℕ) (b : ℕ) → h ++ f ++ (s ++ (p ++ b ∷ [])) ++ [] ≡ h ++ f ++ s ++ p ++ b ∷ []
regroup-star h f s p b = simp (append-nil, append_assoc)

regroup-text : (h f s p : List ℕ) (b : ℕ) → h ++ f ++ s ++ (p ++ b ∷ []) ≡ h ++ f ++ s ++ p ++ b ∷ []
regroup-text h f s p b = simp append_assoc

takes-fixed : (ns : List ℕ) (n : ℕ) (fixed : List ℕ) (stars : List (List ℕ)) (part : List ℕ) (b : ℕ) → IsPart ns n fixed stars part → length fixed < length (classes n) → is_of_class (get_or (classes n) (length fixed) 0) b ≡ true → Takes ns (Inside n fixed stars part) b (Inside n (fixed ++ b ∷ []) stars part)
takes-fixed ns n fixed stars part b h lt e =
    elim h.early [
      | inl same ↦ absurd (omega arith)
      | inr w ↦ (
        record {
          known = h.known;
          listed = h.listed;
          front = run_length-push (classes n) fixed b h.front lt e;
          early = elim (cases_lt (length fixed + 1) (length (classes n))) [
            | inl more ↦ inr (rw (length_push fixed b) more, w.1, w.2)
            | inr le ↦ inl (rw (length_push fixed b) (omega arith))
          ];
          each = h.each;
          texts = h.texts;
          short = h.short;
        },
        rw (w.1, w.2) (regroup-fixed (braced n) fixed b),
      )
    ]

takes-star : (ns : List ℕ) (n : ℕ) (fixed : List ℕ) (stars : List (List ℕ)) (part : List ℕ) (b : ℕ) → IsPart ns n fixed stars part → length (classes n) ≤ length fixed → length stars < length (maxima n) → b ≡ 42 → Takes ns (Inside n fixed stars part) b (Inside n fixed (stars ++ part ∷ []) [])
takes-star ns n fixed stars part b h le lt e = (
  record {
    known = h.known;
    listed = h.listed;
    front = h.front;
    early = elim h.early [ inl same ↦ inl same | inr w ↦ absurd (omega (arith, w.0)) ];
    each = each_fit-push (maxima n) stars part h.each lt (and_from (leb (length part) (get_or (maxima n) (length stars) 0)) (list_all is_text_byte part) (le-leb (length part) (get_or (maxima n) (length stars) 0) h.short) h.texts);
    texts = refl;
    short = omega arith;
  },
  rw e (ap (λ (t : List ℕ). braced n ++ fixed ++ t ++ []) (starred-push stars part) ∙ regroup-star (braced n) fixed (starred stars true) part 42),
)

takes-text : (ns : List ℕ) (n : ℕ) (fixed : List ℕ) (stars : List (List ℕ)) (part : List ℕ) (b : ℕ) → IsPart ns n fixed stars part → length (classes n) ≤ length fixed → length part < get_or (maxima n) (length stars) 0 → is_text_byte b ≡ true → Takes ns (Inside n fixed stars part) b (Inside n fixed stars (part ++ b ∷ []))
takes-text ns n fixed stars part b h le lt e = (
  record {
    known = h.known;
    listed = h.listed;
    front = h.front;
    early = elim h.early [ inl same ↦ inl same | inr w ↦ absurd (omega (arith, w.0)) ];
    each = h.each;
    texts = list_all-push part b h.texts e;
    short = rw (length_push part b) (omega arith);
  },
  regroup-text (braced n) fixed (starred stars true) part b,
)

step-inside : (ns : List ℕ) (n : ℕ) (fixed : List ℕ) (stars : List (List ℕ)) (part : List ℕ) (b : ℕ) (q : Progress) → IsPart ns n fixed stars part → step ns (Inside n fixed stars part) b ≡ Some q → Takes ns (Inside n fixed stars part) b q
step-inside ns n fixed stars part b q h e =
    elim (inside_cases (ltb (length fixed) (length (classes n))) (is_of_class (get_or (classes n) (length fixed) 0) b) (eqb b 42) (ltb (length stars) (length (maxima n))) (is_text_byte b && ltb (length part) (get_or (maxima n) (length stars) 0)) (Inside n (fixed ++ b ∷ []) stars part) (Inside n fixed (stars ++ part ∷ []) []) (Inside n fixed stars (part ++ b ∷ [])) q e) [
      | inl w ↦ subst (λ (r : Progress). Takes ns (Inside n fixed stars part) b r) w.2 (takes-fixed ns n fixed stars part b h (ltb-true (length fixed) (length (classes n)) w.0) w.1)
      | inr (inl w) ↦ subst (λ (r : Progress). Takes ns (Inside n fixed stars part) b r) w.3 (takes-star ns n fixed stars part b h (ltb-false (length fixed) (length (classes n)) w.0) (ltb-true (length stars) (length (maxima n)) w.2) (eqb-true b 42 w.1))
      | inr (inr w) ↦
          let p = and_parts (is_text_byte b) (ltb (length part) (get_or (maxima n) (length stars) 0)) w.2 in
          subst (λ (r : Progress). Takes ns (Inside n fixed stars part) b r) w.3 (takes-text ns n fixed stars part b h (ltb-false (length fixed) (length (classes n)) w.0) (ltb-true (length part) (get_or (maxima n) (length stars) 0) p.1) p.0)
    ]

pub step-good : (ns : List ℕ) (p : Progress) (b : ℕ) (q : Progress) → AllListed ns → IsGood ns p → step ns p b ≡ Some q → Takes ns p b q
step-good ns (InNumber given) b q all h e = step-number ns given b q all e
step-good ns (Inside n fixed stars part) b q all h e = step-inside ns n fixed stars part b q h e

pub steps_cases : (ns : List ℕ) (o : Option Progress) (bytes : List ℕ) (q : Progress) → (elim o [ None ↦ None | Some p ↦ steps ns p bytes ]) ≡ Some q → (p : Progress) × (o ≡ Some p) × (steps ns p bytes ≡ Some q)
steps_cases ns None bytes q e = absurd cc
steps_cases ns (Some p) bytes q e = (p, refl, e)

-- what was read is what the bytes are
pub steps-good : (ns : List ℕ) (p : Progress) (bytes : List ℕ) (q : Progress) → AllListed ns → IsGood ns p → steps ns p bytes ≡ Some q → IsGood ns q × (read_so_far q ≡ read_so_far p ++ bytes)
steps-good ns p [] q all h e =
    let same : p ≡ q = cc in
    subst (λ (r : Progress). IsGood ns r × (read_so_far r ≡ read_so_far p ++ [])) same (h, sym (append-nil (read_so_far p)))
steps-good ns p (b ∷ bytes) q all h e =
    let c = steps_cases ns (step ns p b) bytes q e in
    let one = step-good ns p b c.0 all h c.1 in
    let more = steps-good ns c.0 bytes q all one.0 c.2 in
    (more.0, more.1 ∙ ap (λ (t : List ℕ). t ++ bytes) one.1 ∙ append_assoc (read_so_far p) (b ∷ []) bytes)
