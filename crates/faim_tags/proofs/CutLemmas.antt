-- Cutting a tag off the front of bytes: what is cut is the tag that stands there.
use Rattle.std.proofs.Common.{◌≡◌, ℕ, suc, ◌+◌, ◌-◌, ◌*◌, ◌/◌, ◌%◌, ◌<◌, ◌≤◌, Bool, true, false, cond, eqb, ltb, not, ◌&&◌, List, [], ◌∷◌, ◌++◌, length, get_or, take, drop, Some, None, refl, sym, ap, subst, ◌∙◌, append_assoc, arith, inl, inr}
use Rattle.std.specs.Prelude.{if◌then◌else◌}
use Rattle.std.proofs.lemmas.Bool.{cases_lt, lt-ltb, ltb-true}
use Rattle.std.proofs.lemmas.List.{append-nil, drop_more, take_more, take-append-drop, length-append, length-drop, length-take-le, drop-drop}
use Rattle.std.proofs.Math.Seq.{take-append_seam}
use Rattle.faim_base.specs.Tags.{is_tag_number, tag_numbers}
use Rattle.faim_tags.specs.Layouts.{classes, maxima}
use Rattle.faim_tags.specs.Spelling.{Tag, IsTag, braced, starred, is_empty}
use Rattle.faim_tags.specs.Reading.{is_past, FoundTag}
use Rattle.faim_tags.specs.Steps.{Progress, InNumber, Inside, step, steps, may_end, tag_of, number_in, Stuck, Completes}
use Rattle.faim_tags.specs.Parts.{run_length, text_length, closed_stars}
use Rattle.faim_tags.specs.Cutting.{StarsCut}
use Rattle.faim_tags.proofs.Facts.{among_all, number_back}
use Rattle.faim_tags.proofs.Counts.{run_length-short}
use Rattle.faim_tags.proofs.Runs.{steps-then}
use Rattle.faim_tags.proofs.Goods.{steps_cases}
use Rattle.faim_tags.proofs.Ends.{number_run}
use Rattle.faim_tags.proofs.Greedy.{text_length-short, stuck_fixed, stuck_last}
use Rattle.faim_tags.proofs.Meaning.{front-read, found-ends, end-goes-on, take_split, is_past-at, same_some}
use Rattle.faim_tags.proofs.Built.{ended_tag}

-- one byte past a front that was read
one_more : (ns : List ℕ) (p q last : Progress) (bytes : List ℕ) (k j : ℕ) → steps ns p (take k bytes) ≡ Some q → k < j → j ≤ length bytes → steps ns p (take j bytes) ≡ Some last → (r : Progress) × (step ns q (get_or bytes k 0) ≡ Some r)
one_more ns p q last bytes k j run lt within on =
    let r = front-read ns p (take (k + 1) bytes) (drop (k + 1) (take j bytes)) last (ap (steps ns p) (sym (take_split bytes (k + 1) j (omega arith))) ∙ on) in
    let b = get_or bytes k 0 in
    let more : steps ns q (b ∷ []) ≡ Some r.0 = sym (steps-then ns p q (take k bytes) (b ∷ []) run) ∙ ap (steps ns p) (sym (take_more bytes k 0 (omega arith))) ∙ r.1 in
    let c = steps_cases ns (step ns q b) [] r.0 more in
    (c.0, c.1)

-- a tag is completed where nothing more is read
pub completes_at : (ns : List ℕ) (p : Progress) (bytes : List ℕ) (k : ℕ) (last : Progress) (v : Tag) (n : ℕ) → Stuck ns p bytes k last → (c : Completes ns p bytes v n) → (n ≡ k) × (c.last ≡ last)
completes_at ns p bytes k last v n s c =
    let same : n ≡ k = elim (cases_lt n k) [
      | inl lt ↦
          let m = one_more ns p c.last last bytes n k c.run lt s.within s.run in
          absurd (is_past-at bytes n (omega (arith, s.within)) c.past (end-goes-on ns c.last (get_or bytes n 0) m.0 c.may m.1))
      | inr ge ↦ elim (cases_lt k n) [
        | inl lt ↦
            let m = one_more ns p last c.last bytes k n s.run lt c.within c.run in
            absurd (let wrong : None ≡ Some m.0 = sym (s.none (omega (arith, c.within))) ∙ m.1 in cc)
        | inr le ↦ omega arith
      ]
    ] in
    (same, same_some c.last last (steps ns p (take n bytes)) c.run (ap (λ (j : ℕ). steps ns p (take j bytes)) same ∙ s.run))

-- a tag's number stands before its elements
pub record AfterNumber (ns bytes : List ℕ) (v : Tag) (n : ℕ) : Type 0 where
  pub six : 6 ≤ n
  pub within : n ≤ length bytes
  pub digits : take 4 (drop 1 bytes) ≡ (48 + v.no / 1000) ∷ (48 + v.no / 100 % 10) ∷ (48 + v.no / 10 % 10) ∷ (48 + v.no % 10) ∷ []
  pub elements : Completes ns (Inside v.no [] [] []) (drop 6 bytes) v (n - 6)

pub after_number : (ns bytes : List ℕ) (v : Tag) (n : ℕ) → FoundTag ns bytes v n → AfterNumber ns bytes v n
after_number ns bytes v n h =
    let w = found-ends ns bytes v n h in
    let more = v.fixed ++ starred v.stars v.closed in
    let front : take n bytes ≡ braced v.no ++ more = h.tag.spelled in
    let all : bytes ≡ braced v.no ++ (more ++ drop n bytes) = sym (take-append-drop n bytes) ∙ ap (λ (t : List ℕ). t ++ drop n bytes) front ∙ append_assoc (braced v.no) more (drop n bytes) in
    let long : n ≡ 6 + length more = sym (length-take-le n bytes h.within) ∙ ap length front ∙ length-append (braced v.no) more in
    let left : n - 6 ≡ length more = omega arith in
    let back : 6 + (n - 6) ≡ n = omega arith in
    let after : drop 6 bytes ≡ more ++ drop n bytes = ap (drop 6) all in
    let taken : take (n - 6) (drop 6 bytes) ≡ more = ap (λ (k : ℕ). take k (drop 6 bytes)) left ∙ ap (take (length more)) after ∙ take-append_seam more (drop n bytes) in
    let P : List ℕ → Type 0 = λ t. is_past t ≡ true in
    record {
      six = omega arith;
      within = h.within;
      digits = ap (λ (t : List ℕ). take 4 (drop 1 t)) all;
      elements = record {
        within = omega (arith, h.within, length-drop 6 bytes);
        last = w.last;
        run = ap (steps ns (Inside v.no [] [] [])) taken ∙ sym (steps-then ns (InNumber []) (Inside v.no [] [] []) (braced v.no) more (number_run ns v.no h.tag.sound.listed h.known)) ∙ ap (steps ns (InNumber [])) (sym front) ∙ w.run;
        tag = w.tag;
        may = w.may;
        past = subst P (sym (drop-drop (n - 6) 6 bytes ∙ ap (λ (k : ℕ). drop k bytes) back)) h.past;
      };
    }

-- the number of these digits
pub number_is : (n m : ℕ) → is_tag_number n ≡ true → m ≡ 1000 * (n / 1000) + 100 * (n / 100 % 10) + 10 * (n / 10 % 10) + n % 10 → m ≡ n
number_is n m listed e =
    let back : number_in (braced n) ≡ n = number_back n listed in
    omega (arith, back)

-- the fixed elements of a tag that is completed are all there
pub completes_filled : (ns : List ℕ) (n : ℕ) (bytes : List ℕ) (v : Tag) (k : ℕ) → Completes ns (Inside n [] [] []) bytes v k → run_length (classes n) bytes ≡ length (classes n)
completes_filled ns n bytes v k c =
    let f = run_length (classes n) bytes in
    elim (cases_lt f (length (classes n))) [
      | inl lt ↦
          let stuck = stuck_fixed ns n bytes lt in
          let same = (completes_at ns (Inside n [] [] []) bytes f (Inside n (take f bytes) [] []) v k stuck c).1 in
          let len : length (take f bytes) ≡ f = length-take-le f bytes stuck.within in
          let inside : may_end (Inside n (take f bytes) [] []) ≡ false = ap (λ (t : Bool). if t then false else not (is_empty (classes n) && true)) (lt-ltb (length (take f bytes)) (length (classes n)) (omega arith)) in
          absurd (let wrong : false ≡ true = sym inside ∙ ap may_end (sym same) ∙ c.may in cc)
      | inr ge ↦ omega (arith, (run_length-short (classes n) bytes).0)
    ]

-- the parts that were cut
abbrev pub cut_parts : ℕ → List ℕ → ℕ → List (List ℕ) → ℕ → ℕ → Progress
cut_parts n bytes fixed stars taken count = Inside n (take fixed bytes) stars (take count (drop taken (drop fixed bytes)))

pub parts_stuck : (ns : List ℕ) (n : ℕ) (bytes : List ℕ) (fixed : ℕ) (stars : List (List ℕ)) (taken count : ℕ) → fixed ≡ length (classes n) → run_length (classes n) bytes ≡ length (classes n) → StarsCut (maxima n) (drop fixed bytes) stars taken count
    → Stuck ns (Inside n [] [] []) bytes (fixed + taken + count) (cut_parts n bytes fixed stars taken count)
parts_stuck ns n bytes fixed stars taken count f filled cut =
    stuck_last ns n bytes fixed stars taken count f filled cut.closed cut.all cut.more

-- they are those of the tag that stands there
pub parts_are : (ns : List ℕ) (n : ℕ) (bytes : List ℕ) (v : Tag) (k fixed : ℕ) (stars : List (List ℕ)) (taken count : ℕ) → fixed ≡ length (classes n) → StarsCut (maxima n) (drop fixed bytes) stars taken count → Completes ns (Inside n [] [] []) bytes v k
    → (tag_of (cut_parts n bytes fixed stars taken count) ≡ v) × (fixed + taken + count ≡ k)
parts_are ns n bytes v k fixed stars taken count f cut c =
    let at = completes_at ns (Inside n [] [] []) bytes (fixed + taken + count) (cut_parts n bytes fixed stars taken count) v k (parts_stuck ns n bytes fixed stars taken count f (completes_filled ns n bytes v k c) cut) c in
    (sym (ap tag_of at.1) ∙ c.tag, sym at.0)

pub parts_sound : (ns : List ℕ) (n : ℕ) (bytes : List ℕ) (v : Tag) (k fixed : ℕ) (stars : List (List ℕ)) (taken count : ℕ) → is_tag_number n ≡ true → fixed ≡ length (classes n) → StarsCut (maxima n) (drop fixed bytes) stars taken count → Completes ns (Inside n [] [] []) bytes v k
    → IsTag (tag_of (cut_parts n bytes fixed stars taken count))
parts_sound ns n bytes v k fixed stars taken count listed f cut c =
    let filled = completes_filled ns n bytes v k c in
    let at = completes_at ns (Inside n [] [] []) bytes (fixed + taken + count) (cut_parts n bytes fixed stars taken count) v k (parts_stuck ns n bytes fixed stars taken count f filled cut) c in
    let stuck = parts_stuck tag_numbers n bytes fixed stars taken count f filled cut in
    ended_tag n (take fixed bytes) stars (take count (drop taken (drop fixed bytes))) (take (fixed + taken + count) bytes) listed stuck.run (ap may_end (sym at.1) ∙ c.may)

-- the next star element has no star
pub stars_stop : (most bytes : List ℕ) (stars : List (List ℕ)) (k place count : ℕ) → k < length most → length stars ≡ k → place ≤ length bytes → place ≡ length (starred stars true) → stars ++ closed_stars (drop k most) (drop place bytes) ≡ closed_stars most bytes
    → count ≡ text_length (get_or most k 0) (drop place bytes) → eqb (get_or (drop place bytes) count 0) 42 ≡ false → StarsCut most bytes stars place count
stars_stop most bytes stars k place count lt len le taken on is star =
    let rest = drop place bytes in
    let m = get_or most k 0 in
    let P : ℕ → Type 0 = λ j. eqb (get_or rest j 0) 42 ≡ false in
    let none : closed_stars (drop k most) rest ≡ [] =
    ap (λ (ms : List ℕ). closed_stars ms rest) (drop_more most k 0 lt)
    ∙ ap (λ (t : Bool). cond t (take (text_length m rest) rest ∷ closed_stars (drop (k + 1) most) (drop (suc (text_length m rest)) rest)) []) (subst P is star) in
    record {
      closed = sym (append-nil stars) ∙ ap (λ (x : List (List ℕ)). stars ++ x) (sym none) ∙ on;
      all = taken;
      more = is ∙ ap (λ (j : ℕ). text_length (get_or most j 0) rest) (sym len);
      within = omega (arith, is, (text_length-short m rest).1, length-drop place bytes);
    }

-- the star elements as they were asked for
pub cut_told : (n : ℕ) (bytes rest most : List ℕ) (fixed : ℕ) (stars : List (List ℕ)) (taken count : ℕ) → most ≡ maxima n → rest ≡ drop fixed bytes → StarsCut most rest stars taken count → StarsCut (maxima n) (drop fixed bytes) stars taken count
cut_told n bytes rest most fixed stars taken count m r cut =
    let P : List ℕ → Type 0 = λ x. StarsCut x (drop fixed bytes) stars taken count in
    let Q : List ℕ → Type 0 = λ x. StarsCut most x stars taken count in
    subst P m (subst Q r cut)

-- the number as it was read from its digits
pub number_told : (ns bytes rest : List ℕ) (v : Tag) (n m : ℕ) → FoundTag ns bytes v n → rest ≡ drop 1 bytes
    → ((a b c d : ℕ) → a < 10 → b < 10 → c < 10 → d < 10 → take 4 rest ≡ (48 + a) ∷ (48 + b) ∷ (48 + c) ∷ (48 + d) ∷ [] → m ≡ 1000 * a + 100 * b + 10 * c + d) → m ≡ v.no
number_told ns bytes rest v n m f r read =
    let x = v.no in
    let listed = f.tag.sound.listed in
    let small : x < 10000 = ltb-true x 10000 (among_all (λ j. ltb j 10000) tag_numbers x refl listed) in
    number_is x m listed (read (x / 1000) (x / 100 % 10) (x / 10 % 10) (x % 10) (omega arith) (omega arith) (omega arith) (omega arith) (ap (take 4) r ∙ (after_number ns bytes v n f).digits))

-- the elements that stand after the number
pub elements_told : (ns bytes rest : List ℕ) (v : Tag) (n m : ℕ) → FoundTag ns bytes v n → m ≡ v.no → rest ≡ drop 6 bytes → Completes ns (Inside m [] [] []) rest v (n - 6)
elements_told ns bytes rest v n m f same r =
    let P : ℕ → Type 0 = λ j. Completes ns (Inside j [] [] []) rest v (n - 6) in
    let Q : List ℕ → Type 0 = λ t. Completes ns (Inside v.no [] [] []) t v (n - 6) in
    subst P (sym same) (subst Q (sym r) (after_number ns bytes v n f).elements)
