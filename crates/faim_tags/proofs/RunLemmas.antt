-- A tag in runs: what is known of it tells what many bytes make at once.
use Rattle.std.proofs.Common.{◌≡◌, ℕ, zero, suc, ◌+◌, ◌-◌, ◌*◌, ◌/◌, ◌%◌, ◌<◌, ◌≤◌, Bool, true, false, ltb, leb, eqb, ◌&&◌, ◌||◌, List, [], ◌∷◌, ◌++◌, length, get_or, take, drop, Option, Some, None, refl, sym, ap, subst, ◌∙◌, arith}
use Rattle.std.specs.List.{list_all}
use Rattle.std.proofs.lemmas.Bool.{lt-ltb, leb-true, ne_eqb, eqb-true, and_parts}
use Rattle.std.proofs.lemmas.List.{length-append, length_push, length-take-le, length-drop, get_or-drop, get_or_past}
use Rattle.std.proofs.Math.Seq.{take-add}
use Rattle.faim_base.specs.Tags.{is_tag_number}
use Rattle.faim_base.specs.Text.{is_text_byte, is_digit}
use Rattle.faim_tags.specs.Layouts.{each_class, classes, maxima, is_of_class}
use Rattle.faim_tags.specs.Spelling.{braced}
use Rattle.faim_tags.specs.Reading.{is_among}
use Rattle.faim_tags.specs.Steps.{Progress, InNumber, Inside, step, steps, numbers_begin}
use Rattle.faim_tags.specs.Parts.{run_length, text_length, FollowsBrace}
use Rattle.faim_tags.specs.Partial.{StandsFor, BothStand, Reads, Reaches}
use Rattle.faim_tags.specs.declared.partial.TagPart.{TagPart}
use Rattle.faim_tags.specs.declared.partial.TagPart.TheVariants.{Number, Elements}
use Rattle.faim_tags.proofs.NumberLemmas.{known_new}
use Rattle.faim_tags.proofs.Counts.{run_length-short}
use Rattle.faim_tags.proofs.Runs.{steps-then, step-one, step-star, steps-fixed, steps-text}
use Rattle.faim_tags.proofs.Ends.{at_number, number_run}
use Rattle.faim_tags.proofs.Greedy.{run_length-take, run_length-stop, text_taken, text_length-short, text_length-stop, no_step}

pub closed_digits : (bytes : List ℕ) (n : ℕ) → 5 ≤ length bytes → list_all is_digit (take 4 bytes) ≡ true → get_or bytes 4 0 ≡ 125 → ((a b c d : ℕ) → a < 10 → b < 10 → c < 10 → d < 10 → take 4 bytes ≡ (48 + a) ∷ (48 + b) ∷ (48 + c) ∷ (48 + d) ∷ [] → n ≡ 1000 * a + 100 * b + 10 * c + d) → take 5 bytes ≡ drop 1 (braced n)
closed_digits [] n le digits brace value = absurd (omega (arith, le))
closed_digits (p ∷ []) n le digits brace value = absurd (omega (arith, le))
closed_digits (p ∷ q ∷ []) n le digits brace value = absurd (omega (arith, le))
closed_digits (p ∷ q ∷ r ∷ []) n le digits brace value = absurd (omega (arith, le))
closed_digits (p ∷ q ∷ r ∷ s ∷ []) n le digits brace value = absurd (omega (arith, le))
closed_digits (p ∷ q ∷ r ∷ s ∷ z ∷ bytes) n le digits brace value =
    let one = and_parts (is_digit p) (list_all is_digit (q ∷ r ∷ s ∷ [])) digits in
    let two = and_parts (is_digit q) (list_all is_digit (r ∷ s ∷ [])) one.1 in
    let three = and_parts (is_digit r) (list_all is_digit (s ∷ [])) two.1 in
    let four = and_parts (is_digit s) true three.1 in
    let dp = digit_range p one.0 in
    let dq = digit_range q two.0 in
    let dr = digit_range r three.0 in
    let ds = digit_range s four.0 in
    let ep : p ≡ 48 + (p - 48) = omega (arith, dp.0) in
    let eq : q ≡ 48 + (q - 48) = omega (arith, dq.0) in
    let er : r ≡ 48 + (r - 48) = omega (arith, dr.0) in
    let es : s ≡ 48 + (s - 48) = omega (arith, ds.0) in
    let n_is : n ≡ 1000 * (p - 48) + 100 * (q - 48) + 10 * (r - 48) + (s - 48) = value (p - 48) (q - 48) (r - 48) (s - 48) (omega (arith, dp.1)) (omega (arith, dq.1)) (omega (arith, dr.1)) (omega (arith, ds.1)) (four_are p q r s (48 + (p - 48)) (48 + (q - 48)) (48 + (r - 48)) (48 + (s - 48)) ep eq er es) in
    let parts = digits_of (p - 48) (q - 48) (r - 48) (s - 48) n (omega (arith, dp.1)) (omega (arith, dq.1)) (omega (arith, dr.1)) (omega (arith, ds.1)) n_is in
    five_are p q r s z (48 + n / 1000) (48 + n / 100 % 10) (48 + n / 10 % 10) (48 + n % 10) 125 (omega (arith, ep, parts.0)) (omega (arith, eq, parts.1)) (omega (arith, er, parts.2)) (omega (arith, es, parts.3)) brace
  where
    digit_range : (b : ℕ) → is_digit b ≡ true → (48 ≤ b) × (b ≤ 57)
    digit_range b e = let both = and_parts (leb 48 b) (leb b 57) e in (leb-true 48 b both.0, leb-true b 57 both.1)

    four_are : (p q r s a b c d : ℕ) → p ≡ a → q ≡ b → r ≡ c → s ≡ d → p ∷ q ∷ r ∷ s ∷ [] ≡ a ∷ b ∷ c ∷ d ∷ []
    four_are p q r s a b c d ep eq er es = cc

    five_are : (p q r s z a b c d e : ℕ) → p ≡ a → q ≡ b → r ≡ c → s ≡ d → z ≡ e → p ∷ q ∷ r ∷ s ∷ z ∷ [] ≡ a ∷ b ∷ c ∷ d ∷ e ∷ []
    five_are p q r s z a b c d e ep eq er es ez = cc

    digits_of : (a b c d n : ℕ) → a < 10 → b < 10 → c < 10 → d < 10 → n ≡ 1000 * a + 100 * b + 10 * c + d → (n / 1000 ≡ a) × (n / 100 % 10 ≡ b) × (n / 10 % 10 ≡ c) × (n % 10 ≡ d)
    digits_of a b c d n la lb lc ld is = (omega arith, omega arith, omega arith, omega arith)

-- the bytes at the front are the number's
pub follows_brace : (ns : List ℕ) (count : ℕ) (bytes : List ℕ) (n : ℕ) → count ≤ 1 → 6 - count ≤ length bytes → list_all is_tag_number ns ≡ true → is_among ns n ≡ true → (count ≡ 0 → get_or bytes 0 0 ≡ 123) → take 5 (drop (1 - count) bytes) ≡ drop 1 (braced n) → FollowsBrace ns count bytes n
follows_brace ns count bytes n few within listed among brace rest = record { few = few; within = within; listed = known_new ns n listed among; among = among; front = front count bytes few within brace rest }
  where
    front : (count : ℕ) (bytes : List ℕ) → count ≤ 1 → 6 - count ≤ length bytes → (count ≡ 0 → get_or bytes 0 0 ≡ 123) → take 5 (drop (1 - count) bytes) ≡ drop 1 (braced n) → take (6 - count) bytes ≡ drop count (braced n)
    front zero [] few within brace rest = absurd (omega (arith, within))
    front zero (b ∷ bytes) few within brace rest = ap (λ (x : ℕ). x ∷ take 5 bytes) (brace refl) ∙ ap (λ (t : List ℕ). 123 ∷ t) rest
    front (suc zero) bytes few within brace rest = rest
    front (suc (suc count)) bytes few within brace rest = absurd (omega (arith, few))

pub reads_none : (ns : List ℕ) (p : Progress) (bytes : List ℕ) (t : TagPart) → StandsFor ns t p → Reads ns p bytes 0 t
reads_none ns p bytes t h = record { last = p; run = refl; stands = h }

-- one byte is read
pub reads_one : (ns : List ℕ) (p : Progress) (bytes : List ℕ) (t : TagPart) → 0 < length bytes → BothStand ns (Some t) (step ns p (get_or bytes 0 0)) → Reads ns p bytes 1 t
reads_one ns p [] t lt both = absurd (omega arith)
reads_one ns p (b ∷ bytes) t lt both = go (step ns p b) refl both
  where
    go : (o : Option Progress) → step ns p b ≡ o → BothStand ns (Some t) o → Reads ns p (b ∷ bytes) 1 t
    go None e both = absurd both
    go (Some q) e both = record { last = q; run = step-one ns p q b [] e; stands = both }

-- the rest of a number
pub reads_number : (ns : List ℕ) (like count : ℕ) (bytes : List ℕ) (n : ℕ) (p : Progress) → FollowsBrace ns count bytes n → StandsFor ns (Number like count) p → Reads ns p bytes (6 - count) (Elements n 0 0 0)
reads_number ns like count bytes n (Inside m fs ss last) f h = absurd h
reads_number ns like zero bytes n (InNumber given) f h =
    let P : List ℕ → Type 0 = λ g. Reads ns (InNumber g) bytes 6 (Elements n 0 0 0) in
    subst P (sym h.1) (record { last = Inside n [] [] []; run = ap (steps ns (InNumber [])) f.front ∙ number_run ns n f.listed f.among; stands = (refl, refl, refl, refl) })
reads_number ns like (suc zero) bytes n (InNumber given) f h =
    let P : List ℕ → Type 0 = λ g. Reads ns (InNumber g) bytes 5 (Elements n 0 0 0) in
    let rest = drop 1 (braced n) in
    subst P (sym h.1) (record {
      last = Inside n [] [] [];
      run = ap (steps ns (InNumber (123 ∷ []))) f.front
          ∙ sym (step-one ns (InNumber []) (InNumber (123 ∷ [])) 123 rest (at_number ns n (123 ∷ []) rest f.among refl))
          ∙ number_run ns n f.listed f.among;
      stands = (refl, refl, refl, refl);
    })
reads_number ns like (suc (suc count)) bytes n (InNumber given) f h = absurd (omega (arith, f.few))

-- fixed bytes after the first ones
pub reads_fixed : (ns : List ℕ) (n : ℕ) (elements : List (ℕ × ℕ)) (fixed stars part : ℕ) (bytes : List ℕ) (k : ℕ) (p : Progress) → each_class elements ≡ classes n → k ≡ run_length (drop fixed (each_class elements)) bytes → StandsFor ns (Elements n fixed stars part) p → Reads ns p bytes k (Elements n (fixed + k) stars part)
reads_fixed ns n elements fixed stars part bytes k (InNumber given) is counted h = absurd h
reads_fixed ns n elements fixed stars part bytes k (Inside m fs ss last) is counted h =
    let cs = drop (length fs) (classes n) in
    let k_is : k ≡ run_length cs bytes = counted ∙ ap (λ (xs : List ℕ). run_length (drop fixed xs) bytes) is ∙ ap (λ (j : ℕ). run_length (drop j (classes n)) bytes) h.1 in
    let len : length (take k bytes) ≡ k = length-take-le k bytes (omega (arith, (run_length-short cs bytes).1)) in
    let P : ℕ → Type 0 = λ j. run_length cs (take j bytes) ≡ j in
    let run = steps-fixed ns n fs cs (take k bytes) ss last refl (subst P (sym k_is) (run_length-take cs bytes) ∙ sym len) in
    let R : ℕ → Type 0 = λ j. Reads ns (Inside j fs ss last) bytes k (Elements n (fixed + k) stars part) in
    subst R h.0 (record { last = Inside n (fs ++ take k bytes) ss last; run = run; stands = (refl, omega (arith, h.1, len, length-append fs (take k bytes)), h.2, h.3) })

-- text of a star element
pub reads_text : (ns : List ℕ) (n fixed stars part : ℕ) (bytes : List ℕ) (k : ℕ) (p : Progress) → length (classes n) ≤ fixed → k ≡ text_length (get_or (maxima n) stars 0 - part) bytes → StandsFor ns (Elements n fixed stars part) p → Reads ns p bytes k (Elements n fixed stars (part + k))
reads_text ns n fixed stars part bytes k (InNumber given) le counted h = absurd h
reads_text ns n fixed stars part bytes zero (Inside m fs ss last) le counted h =
    let same : part + 0 ≡ part = omega arith in
    let P : ℕ → Type 0 = λ j. Reads ns (Inside m fs ss last) bytes 0 (Elements n fixed stars j) in
    subst P (sym same) (reads_none ns (Inside m fs ss last) bytes (Elements n fixed stars part) h)
reads_text ns n fixed stars part bytes (suc k) (Inside m fs ss last) le counted h =
    let most = get_or (maxima n) stars 0 in
    let short = text_length-short (most - part) bytes in
    let len : length (take (suc k) bytes) ≡ suc k = length-take-le (suc k) bytes (omega (arith, short.1)) in
    let P : ℕ → Type 0 = λ j. list_all is_text_byte (take j bytes) ≡ true in
    let texts = subst P (sym counted) (text_taken (most - part) bytes) in
    let most_is : most ≡ get_or (maxima n) (length ss) 0 = ap (λ (j : ℕ). get_or (maxima n) j 0) h.2 in
    let run = steps-text ns n fs ss last (take (suc k) bytes) (omega (arith, h.1)) texts (omega (arith, h.3, short.0, most_is, len)) in
    let R : ℕ → Type 0 = λ j. Reads ns (Inside j fs ss last) bytes (suc k) (Elements n fixed stars (part + suc k)) in
    subst R h.0 (record { last = Inside n fs ss (last ++ take (suc k) bytes); run = run; stands = (refl, h.1, h.2, omega (arith, h.3, len, length-append last (take (suc k) bytes))) })

-- some bytes more
pub reads_more : (ns : List ℕ) (p : Progress) (bytes : List ℕ) (a k : ℕ) (t u : TagPart) → Reads ns p bytes a t → ((q : Progress) → StandsFor ns t q → Reads ns q (drop a bytes) k u) → Reads ns p bytes (a + k) u
reads_more ns p bytes a k t u r on =
    let more = on r.last r.stands in
    record { last = more.last; run = ap (steps ns p) (take-add a k bytes) ∙ steps-then ns p r.last (take a bytes) (take k (drop a bytes)) r.run ∙ more.run; stands = more.stands }

-- bytes are read, and none goes on with the next
pub reaches_here : (ns : List ℕ) (p : Progress) (bytes : List ℕ) (k : ℕ) (t : TagPart) → Reads ns p bytes k t → k ≤ length bytes → ((q : Progress) → StandsFor ns t q → k < length bytes → step ns q (get_or bytes k 0) ≡ None) → Reaches ns p bytes k t
reaches_here ns p bytes k t r within none = record { last = r.last; stuck = record { within = within; run = r.run; none = none r.last r.stands }; stands = r.stands }

-- some bytes more, as far as they go
pub reaches_more : (ns : List ℕ) (p : Progress) (bytes : List ℕ) (a k : ℕ) (t u : TagPart) → a ≤ length bytes → Reads ns p bytes a t → ((q : Progress) → StandsFor ns t q → Reaches ns q (drop a bytes) k u) → Reaches ns p bytes (a + k) u
reaches_more ns p bytes a k t u le r on =
    let more = on r.last r.stands in
    let P : ℕ → Type 0 = λ b. step ns more.last b ≡ None in
    record {
      last = more.last;
      stuck = record {
        within = omega (arith, more.stuck.within, length-drop a bytes);
        run = ap (steps ns p) (take-add a k bytes) ∙ steps-then ns p r.last (take a bytes) (take k (drop a bytes)) r.run ∙ more.stuck.run;
        none = λ lt. subst P (get_or-drop a bytes k 0) (more.stuck.none (omega (arith, length-drop a bytes)));
      };
      stands = more.stands;
    }

-- a byte that isn't of its class
pub fixed_stop : (ns : List ℕ) (n fixed stars part b : ℕ) (q : Progress) → fixed < length (classes n) → is_of_class (get_or (classes n) fixed 0) b ≡ false → StandsFor ns (Elements n fixed stars part) q → step ns q b ≡ None
fixed_stop ns n fixed stars part b (InNumber given) lt wrong h = absurd h
fixed_stop ns n fixed stars part b (Inside m fs ss last) lt wrong h =
    let P : ℕ → Type 0 = λ j. step ns (Inside j fs ss last) b ≡ None in
    let Q : ℕ → Type 0 = λ j. is_of_class (get_or (classes n) j 0) b ≡ false in
    let here : is_of_class (get_or (classes n) (length fs) 0) b ≡ false = subst Q h.1 wrong in
    let less : ltb (length fs) (length (classes n)) ≡ true = lt-ltb (length fs) (length (classes n)) (omega (arith, h.1)) in
    let none : step ns (Inside n fs ss last) b ≡ None = rw (less, here) refl in
    subst P h.0 none

-- the fixed bytes aren't all there
pub reaches_fixed : (ns : List ℕ) (n : ℕ) (elements : List (ℕ × ℕ)) (fixed stars part : ℕ) (bytes : List ℕ) (k : ℕ) (p : Progress) → each_class elements ≡ classes n → k ≡ run_length (drop fixed (each_class elements)) bytes → fixed + k < length (each_class elements) → StandsFor ns (Elements n fixed stars part) p → Reaches ns p bytes k (Elements n (fixed + k) stars part)
reaches_fixed ns n elements fixed stars part bytes k p is counted short h =
    let cs = drop fixed (classes n) in
    let k_is : k ≡ run_length cs bytes = counted ∙ ap (λ (xs : List ℕ). run_length (drop fixed xs) bytes) is in
    let all : length (each_class elements) ≡ length (classes n) = ap length is in
    reaches_here ns p bytes k (Elements n (fixed + k) stars part) (reads_fixed ns n elements fixed stars part bytes k p is counted h) (omega (arith, (run_length-short cs bytes).1)) (λ q stands lt.
    let P : ℕ → Type 0 = λ j. is_of_class (get_or cs j 0) (get_or bytes j 0) ≡ false in
    let Q : ℕ → Type 0 = λ c. is_of_class c (get_or bytes k 0) ≡ false in
    let wrong = subst P (sym k_is) (run_length-stop cs bytes (omega (arith, length-drop fixed (classes n))) (omega arith)) in
    fixed_stop ns n (fixed + k) stars part (get_or bytes k 0) q (omega arith) (subst Q (get_or-drop fixed (classes n) k 0) wrong) stands)

-- a star closes the element
reads_star : (ns : List ℕ) (n fixed stars part : ℕ) (bytes : List ℕ) (p : Progress) → length (classes n) ≤ fixed → stars < length (maxima n) → eqb (get_or bytes 0 0) 42 ≡ true → StandsFor ns (Elements n fixed stars part) p → Reads ns p bytes 1 (Elements n fixed (stars + 1) 0)
reads_star ns n fixed stars part [] p le lt star h = absurd cc
reads_star ns n fixed stars part (b ∷ bytes) (InNumber given) le lt star h = absurd h
reads_star ns n fixed stars part (b ∷ bytes) (Inside m fs ss last) le lt star h =
    let is : b ≡ 42 = eqb-true b 42 star in
    let next = Inside n fs (ss ++ last ∷ []) [] in
    let on : step ns (Inside n fs ss last) 42 ≡ Some next = step-star ns n fs ss last (omega (arith, h.1)) (omega (arith, h.2)) in
    let P : ℕ → Type 0 = λ j. step ns (Inside n fs ss last) j ≡ Some next in
    let R : ℕ → Type 0 = λ j. Reads ns (Inside j fs ss last) (b ∷ bytes) 1 (Elements n fixed (stars + 1) 0) in
    subst R h.0 (record { last = next; run = step-one ns (Inside n fs ss last) next b [] (subst P (sym is) on); stands = (refl, h.1, omega (arith, h.2, length_push ss last), refl) })

-- neither a star nor text
pub star_stop : (ns : List ℕ) (n fixed stars part b : ℕ) (q : Progress) → length (classes n) ≤ fixed → (stars < length (maxima n) → eqb b 42 ≡ false) → (part < get_or (maxima n) stars 0 → is_text_byte b ≡ false) → StandsFor ns (Elements n fixed stars part) q → step ns q b ≡ None
star_stop ns n fixed stars part b (InNumber given) le star text h = absurd h
star_stop ns n fixed stars part b (Inside m fs ss last) le star text h =
    let P : ℕ → Type 0 = λ j. step ns (Inside j fs ss last) b ≡ None in
    let same : get_or (maxima n) stars 0 ≡ get_or (maxima n) (length ss) 0 = ap (λ (j : ℕ). get_or (maxima n) j 0) h.2 in
    subst P h.0 (no_step ns n fs ss last b (omega (arith, h.1)) (λ l. star (omega (arith, h.2))) (λ l. text (omega (arith, h.3, same))))

-- text of a star element, after what was read
reads_run : (ns : List ℕ) (n fixed stars part : ℕ) (most bytes : List ℕ) (place k : ℕ) (p : Progress) → length (classes n) ≤ fixed → most ≡ maxima n → k ≡ text_length (get_or most stars 0 - part) (drop place bytes) → Reads ns p bytes place (Elements n fixed stars part) → Reads ns p bytes (place + k) (Elements n fixed stars (part + k))
reads_run ns n fixed stars part most bytes place k p le is counted r =
    let k_is : k ≡ text_length (get_or (maxima n) stars 0 - part) (drop place bytes) = counted ∙ ap (λ (m : List ℕ). text_length (get_or m stars 0 - part) (drop place bytes)) is in
    reads_more ns p bytes place k (Elements n fixed stars part) (Elements n fixed stars (part + k)) r (λ q h. reads_text ns n fixed stars part (drop place bytes) k q le k_is h)

-- the same with its star
pub reads_closed : (ns : List ℕ) (n fixed stars part : ℕ) (most bytes : List ℕ) (place k : ℕ) (p : Progress) → length (classes n) ≤ fixed → most ≡ maxima n → stars < length most → k ≡ text_length (get_or most stars 0 - part) (drop place bytes) → eqb (get_or bytes (place + k) 0) 42 ≡ true → Reads ns p bytes place (Elements n fixed stars part) → Reads ns p bytes (place + k + 1) (Elements n fixed (stars + 1) 0)
reads_closed ns n fixed stars part most bytes place k p le is lt counted star r =
    let P : ℕ → Type 0 = λ j. eqb j 42 ≡ true in
    let same : place + k ≡ place + k + 0 = omega arith in
    let first : get_or bytes (place + k) 0 ≡ get_or (drop (place + k) bytes) 0 0 = ap (λ (j : ℕ). get_or bytes j 0) same ∙ sym (get_or-drop (place + k) bytes 0 0) in
    reads_more ns p bytes (place + k) 1 (Elements n fixed stars (part + k)) (Elements n fixed (stars + 1) 0) (reads_run ns n fixed stars part most bytes place k p le is counted r) (λ q h. reads_star ns n fixed stars (part + k) (drop (place + k) bytes) q le (omega (arith, ap length is)) (subst P first star) h)

-- the same where no star comes next
pub reaches_open : (ns : List ℕ) (n fixed stars part : ℕ) (most bytes : List ℕ) (place k : ℕ) (p : Progress) → length (classes n) ≤ fixed → most ≡ maxima n → place ≤ length bytes → k ≡ text_length (get_or most stars 0 - part) (drop place bytes) → eqb (get_or bytes (place + k) 0) 42 ≡ false → Reads ns p bytes place (Elements n fixed stars part) → Reaches ns p bytes (place + k) (Elements n fixed stars (part + k))
reaches_open ns n fixed stars part most bytes place k p le is within counted star r =
    let room = get_or most stars 0 - part in
    let rest = drop place bytes in
    let short = text_length-short room rest in
    reaches_here ns p bytes (place + k) (Elements n fixed stars (part + k)) (reads_run ns n fixed stars part most bytes place k p le is counted r) (omega (arith, short.1, length-drop place bytes)) (λ q h lt. star_stop ns n fixed stars (part + k) (get_or bytes (place + k) 0) q le (λ l. star) (λ l.
    let same : get_or most stars 0 ≡ get_or (maxima n) stars 0 = ap (λ (m : List ℕ). get_or m stars 0) is in
    let P : ℕ → Type 0 = λ j. is_text_byte (get_or rest j 0) ≡ false in
    let Q : ℕ → Type 0 = λ b. is_text_byte b ≡ false in
    subst Q (get_or-drop place bytes k 0) (subst P (sym counted) (text_length-stop room rest (omega (arith, short.0)) (omega (arith, length-drop place bytes))))) h)

-- no star element is left
pub reaches_end : (ns : List ℕ) (n fixed stars part : ℕ) (most bytes : List ℕ) (place : ℕ) (p : Progress) → length (classes n) ≤ fixed → most ≡ maxima n → place ≤ length bytes → length most ≤ stars → Reads ns p bytes place (Elements n fixed stars part) → Reaches ns p bytes place (Elements n fixed stars part)
reaches_end ns n fixed stars part most bytes place p le is within over r =
    let none : get_or (maxima n) stars 0 ≡ 0 = get_or_past (maxima n) stars 0 (omega (arith, ap length is)) in
    reaches_here ns p bytes place (Elements n fixed stars part) r within (λ q h lt. star_stop ns n fixed stars part (get_or bytes place 0) q le (λ l. absurd (omega (arith, ap length is))) (λ l. absurd (omega arith)) h)

-- each number begins with a brace
pub no_brace : (ns : List ℕ) (b : ℕ) → (b ≡ 123 → ⊥) → numbers_begin ns (b ∷ []) ≡ false
no_brace [] b other = refl
no_brace (n ∷ ns) b other = ap (λ (t : Bool). (t && true) || numbers_begin ns (b ∷ [])) (ne_eqb b 123 other) ∙ no_brace ns b other

pub none_begins : (ns : List ℕ) (b : ℕ) → length ns ≡ 0 → numbers_begin ns (b ∷ []) ≡ false
none_begins [] b none = refl
none_begins (n ∷ ns) b none = absurd (omega (arith, none))
