-- As many bytes as stand at the front of bytes, part by part, and what comes next.
use Rattle.std.proofs.Common.{◌≡◌, ℕ, zero, suc, ◌+◌, ◌<◌, ◌≤◌, Bool, true, false, cond, ltb, leb, eqb, ◌&&◌, List, [], ◌∷◌, ◌++◌, length, get_or, take, drop, replicate, Some, None, refl, sym, ap, subst, ◌∙◌, append_assoc, arith, inl, inr}
use Rattle.std.specs.List.{list_all}
use Rattle.std.proofs.lemmas.Bool.{cases_lt, lt-ltb, le-ltb, ltb-true, and_parts, and_from, le-leb, eqb-true, cases_Bool}
use Rattle.std.proofs.lemmas.List.{drop_more, append-nil, length_push, length-append, length-take, length-take-le, length-drop, length-replicate, get_or_past, get_or-drop, get_or-replicate, drop-drop, take-append-drop, take_at}
use Rattle.faim_base.specs.Text.{is_text_byte}
use Rattle.faim_tags.specs.Layouts.{classes, maxima, is_of_class}
use Rattle.faim_tags.specs.Spelling.{starred, fits}
use Rattle.faim_tags.specs.Steps.{Progress, Inside, step, steps, Stuck}
use Rattle.faim_tags.specs.Parts.{run_length, text_length, closed_stars}
use Rattle.faim_tags.proofs.Counts.{run_length-short}
use Rattle.faim_tags.proofs.Runs.{drop_parts, starred-cons, steps-then, steps-fixed, steps-text, steps-closed}
use Rattle.faim_tags.proofs.Goods.{each_fit, starred-push}

-- the bytes that were counted run through
pub run_length-take : (cs bytes : List ℕ) → run_length cs (take (run_length cs bytes) bytes) ≡ run_length cs bytes
run_length-take [] bytes = refl
run_length-take (c ∷ cs) [] = refl
run_length-take (c ∷ cs) (b ∷ bytes) =
    elim (cases_Bool (is_of_class c b)) [
      | inl e ↦ rw e (rw e (ap (λ (k : ℕ). suc k) (run_length-take cs bytes)))
      | inr e ↦ rw e refl
    ]

stop_at : (c : ℕ) (cs : List ℕ) (b : ℕ) (bytes : List ℕ) (t : Bool) → is_of_class c b ≡ t → (run_length cs bytes < length cs → run_length cs bytes < length bytes → is_of_class (get_or cs (run_length cs bytes) 0) (get_or bytes (run_length cs bytes) 0) ≡ false) → cond t (suc (run_length cs bytes)) 0 < suc (length cs) → cond t (suc (run_length cs bytes)) 0 < suc (length bytes) → is_of_class (get_or (c ∷ cs) (cond t (suc (run_length cs bytes)) 0) 0) (get_or (b ∷ bytes) (cond t (suc (run_length cs bytes)) 0) 0) ≡ false
stop_at c cs b bytes true e more lt lb = more (omega arith) (omega arith)
stop_at c cs b bytes false e more lt lb = e

-- the byte after them isn't of its class
pub run_length-stop : (cs bytes : List ℕ) → run_length cs bytes < length cs → run_length cs bytes < length bytes → is_of_class (get_or cs (run_length cs bytes) 0) (get_or bytes (run_length cs bytes) 0) ≡ false
run_length-stop [] bytes lt lb = absurd (omega arith)
run_length-stop (c ∷ cs) [] lt lb = absurd (omega arith)
run_length-stop (c ∷ cs) (b ∷ bytes) lt lb = stop_at c cs b bytes (is_of_class c b) refl (λ l r. run_length-stop cs bytes l r) lt lb

-- the text bytes that were counted
pub text_taken : (m : ℕ) (bytes : List ℕ) → list_all is_text_byte (take (text_length m bytes) bytes) ≡ true
text_taken zero bytes = refl
text_taken (suc m) [] = refl
text_taken (suc m) (b ∷ bytes) =
    elim (cases_Bool (is_text_byte b)) [
      | inl e ↦ rw e (and_from (is_text_byte b) (list_all is_text_byte (take (text_length m bytes) bytes)) e (text_taken m bytes))
      | inr e ↦ rw e refl
    ]

pub text_length-short : (m : ℕ) (bytes : List ℕ) → (text_length m bytes ≤ m) × (text_length m bytes ≤ length bytes)
text_length-short m bytes = let r = run_length-short (replicate m 116) bytes in (omega (arith, r.0, length-replicate {A = ℕ} m 116), r.1)

pub text_length-stop : (m : ℕ) (bytes : List ℕ) → text_length m bytes < m → text_length m bytes < length bytes → is_text_byte (get_or bytes (text_length m bytes) 0) ≡ false
text_length-stop m bytes lt lb =
    let s = run_length-stop (replicate m 116) bytes (omega (arith, length-replicate {A = ℕ} m 116)) lb in
    let e : get_or (replicate m 116) (text_length m bytes) 0 ≡ 116 = get_or-replicate m (text_length m bytes) 116 0 lt in
    let P : ℕ → Type 0 = λ c. is_of_class c (get_or bytes (text_length m bytes) 0) ≡ false in
    subst P e s

pub star_inside : (xs : List ℕ) (k : ℕ) → eqb (get_or xs k 0) 42 ≡ true → k < length xs
star_inside xs k e =
    elim (cases_lt k (length xs)) [
      | inl lt ↦ lt
      | inr le ↦ absurd (omega (arith, eqb-true (get_or xs k 0) 42 e, get_or_past xs k 0 le))
    ]

-- the closed star elements at the front of bytes
pub record Front (most bytes : List ℕ) (stars : List (List ℕ)) : Type 0 where
  pub each : each_fit most stars ≡ true
  pub few : length stars ≤ length most
  pub rest : bytes ≡ starred stars true ++ drop (length (starred stars true)) bytes
  pub stop : length stars < length most → eqb (get_or (drop (length (starred stars true)) bytes) (text_length (get_or most (length stars) 0) (drop (length (starred stars true)) bytes)) 0) 42 ≡ false

split_star : (bytes : List ℕ) (k : ℕ) → k < length bytes → get_or bytes k 0 ≡ 42 → bytes ≡ take k bytes ++ 42 ∷ drop (suc k) bytes
split_star bytes k lt e =
    let one : drop k bytes ≡ get_or bytes k 0 ∷ drop (k + 1) bytes = drop_more bytes k 0 lt in
    let next : k + 1 ≡ suc k = omega arith in
    sym (take-append-drop k bytes) ∙ ap (λ (t : List ℕ). take k bytes ++ t) (one ∙ ap (λ (c : ℕ). c ∷ drop (k + 1) bytes) e ∙ ap (λ (j : ℕ). 42 ∷ drop j bytes) next)

past_star : (bytes w : List ℕ) (k : ℕ) → k < length bytes → drop (length (take k bytes ++ 42 ∷ w)) bytes ≡ drop (length w) (drop (suc k) bytes)
past_star bytes w k lt =
    let len : length (take k bytes ++ 42 ∷ w) ≡ suc k + length w = omega (arith, length-append (take k bytes) (42 ∷ w), length-take-le k bytes (omega arith)) in
    ap (λ (j : ℕ). drop j bytes) len ∙ sym (drop-drop (length w) (suc k) bytes)

front-next : (m : ℕ) (most bytes : List ℕ) (stars : List (List ℕ)) → eqb (get_or bytes (text_length m bytes) 0) 42 ≡ true → Front most (drop (suc (text_length m bytes)) bytes) stars → Front (m ∷ most) bytes (take (text_length m bytes) bytes ∷ stars)
front-next m most bytes stars e f =
    let k = text_length m bytes in
    let lt = star_inside bytes k e in
    let s = take k bytes in
    let same = starred-cons s stars in
    let gone : drop (length (starred (s ∷ stars) true)) bytes ≡ drop (length (starred stars true)) (drop (suc k) bytes) = ap (λ (t : List ℕ). drop (length t) bytes) same ∙ past_star bytes (starred stars true) k lt in
    let P : List ℕ → Type 0 = λ r. length (s ∷ stars) < length (m ∷ most) → eqb (get_or r (text_length (get_or (m ∷ most) (length (s ∷ stars)) 0) r) 0) 42 ≡ false in
    record {
      each = and_from (fits m s) (each_fit most stars) (and_from (leb (length s) m) (list_all is_text_byte s) (le-leb (length s) m (omega (arith, (text_length-short m bytes).0, length-take k bytes))) (text_taken m bytes)) f.each;
      few = omega (arith, f.few);
      rest = split_star bytes k lt (eqb-true (get_or bytes k 0) 42 e) ∙ ap (λ (t : List ℕ). s ++ 42 ∷ t) f.rest ∙ sym (append_assoc s (42 ∷ starred stars true) (drop (length (starred stars true)) (drop (suc k) bytes)))
          ∙ ap (λ (t : List ℕ). t ++ drop (length (starred stars true)) (drop (suc k) bytes)) (sym same)
          ∙ ap (λ (t : List ℕ). starred (s ∷ stars) true ++ t) (sym gone);
      stop = subst P (sym gone) (λ l. f.stop (omega arith));
    }

front_by : (m : ℕ) (most bytes : List ℕ) (t : Bool) → eqb (get_or bytes (text_length m bytes) 0) 42 ≡ t → Front most (drop (suc (text_length m bytes)) bytes) (closed_stars most (drop (suc (text_length m bytes)) bytes)) → Front (m ∷ most) bytes (cond t (take (text_length m bytes) bytes ∷ closed_stars most (drop (suc (text_length m bytes)) bytes)) [])
front_by m most bytes true e more = front-next m most bytes (closed_stars most (drop (suc (text_length m bytes)) bytes)) e more
front_by m most bytes false e more = record { each = refl; few = omega arith; rest = refl; stop = λ lt. e }

pub closed_front : (most bytes : List ℕ) → Front most bytes (closed_stars most bytes)
closed_front [] bytes = record { each = refl; few = omega arith; rest = refl; stop = λ lt. absurd (omega arith) }
closed_front (m ∷ most) bytes = front_by m most bytes (eqb (get_or bytes (text_length m bytes) 0) 42) refl (closed_front most (drop (suc (text_length m bytes)) bytes))

-- closed star elements that fit are read
pub steps-stars : (ns : List ℕ) (n : ℕ) (fixed : List ℕ) (before stars : List (List ℕ)) (left more : List ℕ) → length (classes n) ≤ length fixed → drop (length before) (maxima n) ≡ left → each_fit left stars ≡ true → steps ns (Inside n fixed before []) (starred stars true ++ more) ≡ steps ns (Inside n fixed (before ++ stars) []) more
steps-stars ns n fixed before [] left more le d h = ap (λ (x : List (List ℕ)). steps ns (Inside n fixed x []) more) (sym (append-nil before))
steps-stars ns n fixed before (s ∷ stars) [] more le d h = absurd cc
steps-stars ns n fixed before (s ∷ stars) (m ∷ left) more le d h =
    let w = drop_parts (maxima n) (length before) m left d in
    let p = and_parts (fits m s) (each_fit left stars) h in
    let next : drop (length (before ++ s ∷ [])) (maxima n) ≡ left = rw (length_push before s) w.2 in
    ap (λ (t : List ℕ). steps ns (Inside n fixed before []) (t ++ more)) (starred-cons s stars)
    ∙ ap (steps ns (Inside n fixed before [])) (append_assoc s (42 ∷ starred stars true) more)
    ∙ steps-closed ns n fixed before s (starred stars true ++ more) le w.0 (rw w.1 p.0)
    ∙ steps-stars ns n fixed (before ++ s ∷ []) stars left more le next p.1
    ∙ ap (λ (x : List (List ℕ)). steps ns (Inside n fixed x []) more) (append_assoc before (s ∷ []) stars)

-- the fixed elements aren't all there
pub stuck_fixed : (ns : List ℕ) (n : ℕ) (bytes : List ℕ) → run_length (classes n) bytes < length (classes n) → Stuck ns (Inside n [] [] []) bytes (run_length (classes n) bytes) (Inside n (take (run_length (classes n) bytes) bytes) [] [])
stuck_fixed ns n bytes lt =
    let k = run_length (classes n) bytes in
    let le = (run_length-short (classes n) bytes).1 in
    let len : length (take k bytes) ≡ k = length-take-le k bytes le in
    record {
      within = le;
      run = steps-fixed ns n [] (classes n) (take k bytes) [] [] refl (run_length-take (classes n) bytes ∙ sym len);
      none = λ lb.
          let wrong : is_of_class (get_or (classes n) (length (take k bytes)) 0) (get_or bytes k 0) ≡ false = rw len (run_length-stop (classes n) bytes lt lb) in
          rw (lt-ltb (length (take k bytes)) (length (classes n)) (omega arith), wrong) refl;
    }

pub no_step : (ns : List ℕ) (n : ℕ) (fixed : List ℕ) (stars : List (List ℕ)) (part : List ℕ) (b : ℕ) → length (classes n) ≤ length fixed → (length stars < length (maxima n) → eqb b 42 ≡ false) → (length part < get_or (maxima n) (length stars) 0 → is_text_byte b ≡ false) → step ns (Inside n fixed stars part) b ≡ None
no_step ns n fixed stars part b le star text =
    rw (le-ltb (length fixed) (length (classes n)) le)
    (nothing (eqb b 42) (ltb (length stars) (length (maxima n))) (is_text_byte b) (ltb (length part) (get_or (maxima n) (length stars) 0)) (Inside n fixed (stars ++ part ∷ []) []) (Inside n fixed stars (part ++ b ∷ []))
    (λ l. star (ltb-true (length stars) (length (maxima n)) l)) (λ l. text (ltb-true (length part) (get_or (maxima n) (length stars) 0) l)))
  where
    nothing : (s u t v : Bool) (x y : Progress) → (u ≡ true → s ≡ false) → (v ≡ true → t ≡ false) → cond s (cond u (Some x) None) (cond (t && v) (Some y) None) ≡ None
    nothing true true t v x y f g = absurd (let e = f refl in cc)
    nothing true false t v x y f g = refl
    nothing false u true true x y f g = absurd (let e = g refl in cc)
    nothing false u true false x y f g = refl
    nothing false u false v x y f g = refl

byte_at : (bytes : List ℕ) (f a k : ℕ) → get_or bytes (f + a + k) 0 ≡ get_or (drop a (drop f bytes)) k 0
byte_at bytes f a k =
    let same : f + a + k ≡ f + (a + k) = omega arith in
    ap (λ (j : ℕ). get_or bytes j 0) same ∙ sym (get_or-drop f bytes (a + k) 0) ∙ sym (get_or-drop a (drop f bytes) k 0)

three_parts : (bytes s : List ℕ) (f k : ℕ) → drop f bytes ≡ s ++ drop (length s) (drop f bytes) → bytes ≡ take f bytes ++ (s ++ take k (drop (length s) (drop f bytes))) ++ drop k (drop (length s) (drop f bytes))
three_parts bytes s f k e =
    let rest = drop (length s) (drop f bytes) in
    sym (take-append-drop f bytes) ∙ ap (λ (t : List ℕ). take f bytes ++ t) (e ∙ ap (λ (t : List ℕ). s ++ t) (sym (take-append-drop k rest)) ∙ sym (append_assoc s (take k rest) (drop k rest)))
    ∙ sym (append_assoc (take f bytes) (s ++ take k rest) (drop k rest))

three_length : (bytes s : List ℕ) (f k : ℕ) → drop f bytes ≡ s ++ drop (length s) (drop f bytes) → f ≤ length bytes → k ≤ length (drop (length s) (drop f bytes)) → length (take f bytes ++ (s ++ take k (drop (length s) (drop f bytes)))) ≡ f + length s + k
three_length bytes s f k e le lk =
    let rest = drop (length s) (drop f bytes) in
    omega (arith, length-append (take f bytes) (s ++ take k rest), length-append s (take k rest), length-take-le f bytes le, length-take-le k rest lk)

pub stuck_stars : (ns : List ℕ) (n : ℕ) (bytes : List ℕ) → run_length (classes n) bytes ≡ length (classes n) → (stars : List (List ℕ)) → stars ≡ closed_stars (maxima n) (drop (length (classes n)) bytes) → (k : ℕ) → k ≡ text_length (get_or (maxima n) (length stars) 0) (drop (length (starred stars true)) (drop (length (classes n)) bytes))
    → Stuck ns (Inside n [] [] []) bytes (length (classes n) + length (starred stars true) + k) (Inside n (take (length (classes n)) bytes) stars (take k (drop (length (starred stars true)) (drop (length (classes n)) bytes))))
stuck_stars ns n bytes whole stars is k k_is =
    let f = length (classes n) in
    let s = starred stars true in
    let rest = drop (length s) (drop f bytes) in
    let m = get_or (maxima n) (length stars) 0 in
    let front : Front (maxima n) (drop f bytes) stars = let P : List (List ℕ) → Type 0 = λ x. Front (maxima n) (drop f bytes) x in subst P (sym is) (closed_front (maxima n) (drop f bytes)) in
    let le : f ≤ length bytes = omega (arith, (run_length-short (classes n) bytes).1) in
    let lk : k ≤ length rest = omega (arith, (text_length-short m rest).1) in
    let km : k ≤ m = omega (arith, (text_length-short m rest).0) in
    let len = three_length bytes s f k front.rest le lk in
    let parts = three_parts bytes s f k front.rest in
    let taken : take (f + length s + k) bytes ≡ take f bytes ++ (s ++ take k rest) = ap (take (f + length s + k)) parts ∙ take_at (take f bytes ++ (s ++ take k rest)) (drop k rest) (f + length s + k) len in
    let flen : length (take f bytes) ≡ f = length-take-le f bytes le in
    let klen : length (take k rest) ≡ k = length-take-le k rest lk in
    let texts : list_all is_text_byte (take k rest) ≡ true = let P : ℕ → Type 0 = λ j. list_all is_text_byte (take j rest) ≡ true in subst P (sym k_is) (text_taken m rest) in
    let runs : run_length (classes n) (take f bytes) ≡ f = let P : ℕ → Type 0 = λ j. run_length (classes n) (take j bytes) ≡ j in subst P whole (run_length-take (classes n) bytes) in
    let at_byte : get_or bytes (f + length s + k) 0 ≡ get_or rest k 0 = byte_at bytes f (length s) k in
    let all : length bytes ≡ f + length s + k + length (drop k rest) = ap length parts ∙ length-append (take f bytes ++ (s ++ take k rest)) (drop k rest) ∙ ap (λ (j : ℕ). j + length (drop k rest)) len in
    record {
      within = omega (arith, all);
      run = ap (steps ns (Inside n [] [] [])) taken
          ∙ steps-then ns (Inside n [] [] []) (Inside n (take f bytes) [] []) (take f bytes) (s ++ take k rest) (steps-fixed ns n [] (classes n) (take f bytes) [] [] refl (runs ∙ sym flen))
          ∙ steps-stars ns n (take f bytes) [] stars (maxima n) (take k rest) (omega arith) refl front.each
          ∙ steps-text ns n (take f bytes) stars [] (take k rest) (omega arith) texts (omega arith);
      none = λ lt.
          let star : length stars < length (maxima n) → eqb (get_or bytes (f + length s + k) 0) 42 ≡ false = λ l. let P : ℕ → Type 0 = λ j. eqb (get_or rest j 0) 42 ≡ false in rw at_byte (subst P (sym k_is) (front.stop l)) in
          let text : length (take k rest) < m → is_text_byte (get_or bytes (f + length s + k) 0) ≡ false = λ l.
          let P : ℕ → Type 0 = λ j. is_text_byte (get_or rest j 0) ≡ false in
          let Q : ℕ → Type 0 = λ b. is_text_byte b ≡ false in
          subst Q (sym at_byte) (subst P (sym k_is) (text_length-stop m rest (omega arith) (omega (arith, all, length-drop k rest)))) in
          no_step ns n (take f bytes) stars (take k rest) (get_or bytes (f + length s + k) 0) (omega arith) star text;
    }

-- one closed star element more
pub closed_on : (maxima bytes : List ℕ) (stars : List (List ℕ)) (k place count : ℕ) → k < length maxima → place ≤ length bytes → count ≡ text_length (get_or maxima k 0) (drop place bytes) → eqb (get_or (drop place bytes) count 0) 42 ≡ true → place ≡ length (starred stars true)
    → (place + (count + 1) ≤ length bytes) × (place + (count + 1) ≡ length (starred (stars ++ take count (drop place bytes) ∷ []) true)) × ((stars ++ take count (drop place bytes) ∷ []) ++ closed_stars (drop (k + 1) maxima) (drop (place + (count + 1)) bytes) ≡ stars ++ closed_stars (drop k maxima) (drop place bytes))
closed_on maxima bytes stars k place count lt le is star taken =
    let rest = drop place bytes in
    let m = get_or maxima k 0 in
    let s = take count rest in
    let inside = star_inside rest count star in
    let fits : place + (count + 1) ≤ length bytes = omega (arith, length-drop place bytes) in
    let slen : length s ≡ count = length-take-le count rest (omega arith) in
    let next : suc count ≡ count + 1 = omega arith in
    let P : ℕ → Type 0 = λ j. eqb (get_or rest j 0) 42 ≡ true in
    let here : closed_stars (m ∷ drop (k + 1) maxima) rest ≡ take (text_length m rest) rest ∷ closed_stars (drop (k + 1) maxima) (drop (suc (text_length m rest)) rest) = ap (λ (t : Bool). cond t (take (text_length m rest) rest ∷ closed_stars (drop (k + 1) maxima) (drop (suc (text_length m rest)) rest)) []) (subst P is star) in
    let all : closed_stars (drop k maxima) rest ≡ s ∷ closed_stars (drop (k + 1) maxima) (drop (place + (count + 1)) bytes) =
    ap (λ (ms : List ℕ). closed_stars ms rest) (drop_more maxima k 0 lt) ∙ here
    ∙ ap (λ (j : ℕ). take j rest ∷ closed_stars (drop (k + 1) maxima) (drop (suc j) rest)) (sym is)
    ∙ ap (λ (j : ℕ). s ∷ closed_stars (drop (k + 1) maxima) (drop j rest)) next
    ∙ ap (λ (t : List ℕ). s ∷ closed_stars (drop (k + 1) maxima) t) (drop-drop (count + 1) place bytes) in (
      fits,
      omega (arith, ap length (starred-push stars s), length-append (starred stars true) (s ++ 42 ∷ []), length-append s (42 ∷ [])),
      append_assoc stars (s ∷ []) (closed_stars (drop (k + 1) maxima) (drop (place + (count + 1)) bytes)) ∙ ap (λ (t : List (List ℕ)). stars ++ t) (sym all),
    )

-- the same, told of the parts as they are read
pub stuck_last : (ns : List ℕ) (n : ℕ) (bytes : List ℕ) (fixed : ℕ) (stars : List (List ℕ)) (taken k : ℕ) → fixed ≡ length (classes n) → run_length (classes n) bytes ≡ length (classes n) → stars ≡ closed_stars (maxima n) (drop fixed bytes) → taken ≡ length (starred stars true) → k ≡ text_length (get_or (maxima n) (length stars) 0) (drop taken (drop fixed bytes)) → Stuck ns (Inside n [] [] []) bytes (fixed + taken + k) (Inside n (take fixed bytes) stars (take k (drop taken (drop fixed bytes))))
stuck_last ns n bytes fixed stars taken k f filled s t c =
    let l = length (classes n) in
    let w = length (starred stars true) in
    let P : ℕ → Type 0 = λ i. stars ≡ closed_stars (maxima n) (drop i bytes) → k ≡ text_length (get_or (maxima n) (length stars) 0) (drop w (drop i bytes)) → Stuck ns (Inside n [] [] []) bytes (i + w + k) (Inside n (take i bytes) stars (take k (drop w (drop i bytes)))) in
    let Q : ℕ → Type 0 = λ j. k ≡ text_length (get_or (maxima n) (length stars) 0) (drop j (drop fixed bytes)) → Stuck ns (Inside n [] [] []) bytes (fixed + j + k) (Inside n (take fixed bytes) stars (take k (drop j (drop fixed bytes)))) in
    subst Q (sym t) (subst P (sym f) (λ s_is k_is. stuck_stars ns n bytes filled stars s_is k k_is) s) c
