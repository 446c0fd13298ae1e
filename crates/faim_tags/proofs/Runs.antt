-- Reading byte by byte, and part by part.
use Rattle.std.proofs.Common.{◌≡◌, ℕ, suc, ◌+◌, ◌<◌, ◌≤◌, Bool, true, false, cond, eqb, List, [], ◌∷◌, ◌++◌, length, get_or, drop, Option, Some, None, refl, sym, ap, ◌∙◌, append_assoc, arith, inl, inr}
use Rattle.std.specs.List.{list_all}
use Rattle.std.proofs.lemmas.Bool.{cases_lt, lt-ltb, le-ltb, and_parts, leb-true}
use Rattle.std.proofs.lemmas.Bool.Decides.{nat_tests}
use Rattle.std.proofs.lemmas.List.{drop_more, drop_all, append-nil, length_push}
use Rattle.faim_base.specs.Text.{is_text_byte}
use Rattle.faim_tags.specs.Layouts.{classes, maxima, is_of_class}
use Rattle.faim_tags.specs.Spelling.{starred, fits}
use Rattle.faim_tags.specs.Steps.{Progress, Inside, step, steps}
use Rattle.faim_tags.specs.Parts.{run_length}

-- reading on from where some bytes led
abbrev pub onward : List ℕ → Option Progress → List ℕ → Option Progress
onward ns None bytes = None
onward ns (Some p) bytes = steps ns p bytes

pub steps-append : (ns : List ℕ) (p : Progress) (a b : List ℕ) → steps ns p (a ++ b) ≡ onward ns (steps ns p a) b
steps-append ns p [] b = refl
steps-append ns p (x ∷ a) b =
    elim (step ns p x) as (λ o. (elim o [ None ↦ None | Some q ↦ steps ns q (a ++ b) ]) ≡ onward ns (elim o [ None ↦ None | Some q ↦ steps ns q a ]) b) [
      | None ↦ refl
      | Some q ↦ steps-append ns q a b
    ]

pub steps-then : (ns : List ℕ) (p q : Progress) (a b : List ℕ) → steps ns p a ≡ Some q → steps ns p (a ++ b) ≡ steps ns q b
steps-then ns p q a b e = steps-append ns p a b ∙ ap (λ (o : Option Progress). onward ns o b) e

pub step-one : (ns : List ℕ) (p q : Progress) (b : ℕ) (bytes : List ℕ) → step ns p b ≡ Some q → steps ns p (b ∷ bytes) ≡ steps ns q bytes
step-one ns p q b bytes e = ap (λ (o : Option Progress). elim o [ None ↦ None | Some q ↦ steps ns q bytes ]) e

pub drop_parts : (xs : List ℕ) (i c : ℕ) (more : List ℕ) → drop i xs ≡ c ∷ more → (i < length xs) × (get_or xs i 0 ≡ c) × (drop (i + 1) xs ≡ more)
drop_parts xs i c more e =
    elim (cases_lt i (length xs)) [
      | inl lt ↦ let f : drop i xs ≡ get_or xs i 0 ∷ drop (i + 1) xs = drop_more xs i 0 lt in (lt, cc, cc)
      | inr le ↦ let f : drop i xs ≡ [] = drop_all i xs le in absurd cc
    ]

pub step-fixed : (ns : List ℕ) (n : ℕ) (fixed : List ℕ) (stars : List (List ℕ)) (part : List ℕ) (b : ℕ) → length fixed < length (classes n) → is_of_class (get_or (classes n) (length fixed) 0) b ≡ true → step ns (Inside n fixed stars part) b ≡ Some (Inside n (fixed ++ b ∷ []) stars part)
step-fixed ns n fixed stars part b lt e = rw (lt-ltb (length fixed) (length (classes n)) lt, e) refl

pub step-star : (ns : List ℕ) (n : ℕ) (fixed : List ℕ) (stars : List (List ℕ)) (part : List ℕ) → length (classes n) ≤ length fixed → length stars < length (maxima n) → step ns (Inside n fixed stars part) 42 ≡ Some (Inside n fixed (stars ++ part ∷ []) [])
step-star ns n fixed stars part le lt = rw (le-ltb (length fixed) (length (classes n)) le, lt-ltb (length stars) (length (maxima n)) lt) refl

text_isn't_star : (b : ℕ) → is_text_byte b ≡ true → eqb b 42 ≡ false
text_isn't_star b e = grind (arith, nat_tests)

pub step-text : (ns : List ℕ) (n : ℕ) (fixed : List ℕ) (stars : List (List ℕ)) (part : List ℕ) (b : ℕ) → length (classes n) ≤ length fixed → length part < get_or (maxima n) (length stars) 0 → is_text_byte b ≡ true → step ns (Inside n fixed stars part) b ≡ Some (Inside n fixed stars (part ++ b ∷ []))
step-text ns n fixed stars part b le lt e = rw (le-ltb (length fixed) (length (classes n)) le, e, text_isn't_star b e, lt-ltb (length part) (get_or (maxima n) (length stars) 0) lt) refl

-- a byte that is counted is of its class
pub counted : (t : Bool) (x y : ℕ) → cond t (suc x) 0 ≡ suc y → (t ≡ true) × (x ≡ y)
counted true x y e = (refl, omega arith)
counted false x y e = absurd (omega arith)

pub steps-fixed : (ns : List ℕ) (n : ℕ) (fixed rest bytes : List ℕ) (stars : List (List ℕ)) (part : List ℕ) → drop (length fixed) (classes n) ≡ rest → run_length rest bytes ≡ length bytes → steps ns (Inside n fixed stars part) bytes ≡ Some (Inside n (fixed ++ bytes) stars part)
steps-fixed ns n fixed rest [] stars part e h = ap (λ (f : List ℕ). Some (Inside n f stars part)) (sym (append-nil fixed))
steps-fixed ns n fixed [] (b ∷ bytes) stars part e h = absurd (omega (arith, h))
steps-fixed ns n fixed (c ∷ rest) (b ∷ bytes) stars part e h =
    let p = counted (is_of_class c b) (run_length rest bytes) (length bytes) h in
    let d = drop_parts (classes n) (length fixed) c rest e in
    let here : is_of_class (get_or (classes n) (length fixed) 0) b ≡ true = rw d.1 p.0 in
    let next : drop (length (fixed ++ b ∷ [])) (classes n) ≡ rest = rw (length_push fixed b) d.2 in
    step-one ns (Inside n fixed stars part) (Inside n (fixed ++ b ∷ []) stars part) b bytes (step-fixed ns n fixed stars part b d.0 here)
    ∙ steps-fixed ns n (fixed ++ b ∷ []) rest bytes stars part next p.1
    ∙ ap (λ (f : List ℕ). Some (Inside n f stars part)) (append_assoc fixed (b ∷ []) bytes)

pub steps-text : (ns : List ℕ) (n : ℕ) (fixed : List ℕ) (stars : List (List ℕ)) (part bytes : List ℕ) → length (classes n) ≤ length fixed → list_all is_text_byte bytes ≡ true → length part + length bytes ≤ get_or (maxima n) (length stars) 0 → steps ns (Inside n fixed stars part) bytes ≡ Some (Inside n fixed stars (part ++ bytes))
steps-text ns n fixed stars part [] le t m = ap (λ (f : List ℕ). Some (Inside n fixed stars f)) (sym (append-nil part))
steps-text ns n fixed stars part (b ∷ bytes) le t m =
    let p = and_parts (is_text_byte b) (list_all is_text_byte bytes) t in
    let room : length (part ++ b ∷ []) + length bytes ≤ get_or (maxima n) (length stars) 0 = omega (arith, length_push part b) in
    step-one ns (Inside n fixed stars part) (Inside n fixed stars (part ++ b ∷ [])) b bytes (step-text ns n fixed stars part b le (omega arith) p.0)
    ∙ steps-text ns n fixed stars (part ++ b ∷ []) bytes le p.1 room
    ∙ ap (λ (f : List ℕ). Some (Inside n fixed stars f)) (append_assoc part (b ∷ []) bytes)

pub starred-cons : (s : List ℕ) (stars : List (List ℕ)) → starred (s ∷ stars) true ≡ s ++ 42 ∷ starred stars true
starred-cons s [] = refl
starred-cons s (t ∷ stars) = refl

-- an element and its star
pub steps-closed : (ns : List ℕ) (n : ℕ) (fixed : List ℕ) (stars : List (List ℕ)) (s more : List ℕ) → length (classes n) ≤ length fixed → length stars < length (maxima n) → fits (get_or (maxima n) (length stars) 0) s ≡ true → steps ns (Inside n fixed stars []) (s ++ 42 ∷ more) ≡ steps ns (Inside n fixed (stars ++ s ∷ []) []) more
steps-closed ns n fixed stars s more le lt f =
    let p = and_parts _ _ f in
    let short = leb-true (length s) (get_or (maxima n) (length stars) 0) p.0 in
    steps-then ns (Inside n fixed stars []) (Inside n fixed stars s) s (42 ∷ more) (steps-text ns n fixed stars [] s le p.1 (omega arith))
    ∙ step-one ns (Inside n fixed stars s) (Inside n fixed (stars ++ s ∷ []) []) 42 more (step-star ns n fixed stars s le lt)
