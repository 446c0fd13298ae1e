-- How long the spelling of a message may be.
use Rattle.std.proofs.Common.{◌≡◌, ℕ, ◌+◌, ◌≤◌, Bool, true, false, cond, eqb, leb, not, ◌||◌, map, List, [], ◌∷◌, ◌++◌, length, refl, sym, ap, ◌∙◌, arith, length-append}
use Rattle.std.specs.List.{list_all, sum, sum_by}
use Rattle.std.proofs.lemmas.Bool.{and_parts, and_from, or_parts, eqb-true, eqb-false, ne_eqb, not-true, leb-true}
use Rattle.std.proofs.lemmas.List.Sums.{sum-map, sum_by-cons}
use Rattle.faim_base.specs.Limits.{longest_message}
use Rattle.faim_base.specs.Tags.{tag_numbers, is_tag_number}
use Rattle.faim_base.specs.Text.{is_text_byte}
use Rattle.faim_tags.specs.Layouts.{row_of, classes, maxima, longest}
use Rattle.faim_tags.specs.Spelling.{Tag, IsTag, braced, spelling, starred, all_fit, fits}
use Rattle.faim_tags.specs.Reading.{is_among}
use Rattle.faim_tags.proofs.Ends.{fill-run}
use Rattle.faim_message.specs.declared.form.Form.{Form}
use Rattle.faim_message.specs.declared.form.Breaks.{Breaks}
use Rattle.faim_message.specs.declared.form.Breaks.TheVariants.{Joined, Lf, CrLf}
use Rattle.faim_message.specs.Forms.{without, permitted, between, ending}
use Rattle.faim_message.specs.Spelling.{Content, Spells, EachTag, numbers, distinct, joined}
use Rattle.faim_message.proofs.Numbers.{all_at, without_among, permitted_listed}

-- the values of numbers together
abbrev total : (ℕ → ℕ) → List ℕ → ℕ
total f [] = 0
total f (n ∷ ns) = f n + total f ns

sum_total : (f : ℕ → ℕ) (ns : List ℕ) → sum (map f ns) ≡ total f ns
sum_total f ns = sum-map f ns ∙ each ns
  where
    each : (ns : List ℕ) → sum_by f ns ≡ total f ns
    each [] = refl
    each (n ∷ ns) = sum_by-cons f n ns ∙ ap (λ (k : ℕ). f n + k) (each ns)

-- star elements with their stars are no longer than the row says
stars_short : (most : List ℕ) (stars : List (List ℕ)) (closed : Bool) → all_fit most stars closed ≡ true → length (starred stars closed) ≤ total (λ m. m + 1) most
stars_short most [] closed e = omega arith
stars_short [] (s ∷ stars) closed e = absurd (let wrong : false ≡ true = e in cc)
stars_short (m ∷ most) (s ∷ []) closed e =
    let p = and_parts (fits m s) _ e in
    let q = and_parts (leb (length s) m) (list_all is_text_byte s) p.0 in
    last closed (leb-true (length s) m q.0)
  where
    last : (closed : Bool) → length s ≤ m → length (starred (s ∷ []) closed) ≤ (m + 1) + total (λ m. m + 1) most
    last true short = omega (arith, length-append s (42 ∷ []))
    last false short = omega (arith, length-append {A = ℕ} s [])
stars_short (m ∷ most) (s ∷ t ∷ stars) closed e =
    let p = and_parts (fits m s) (all_fit most (t ∷ stars) closed) e in
    let q = and_parts (leb (length s) m) (list_all is_text_byte s) p.0 in
    let short : length s ≤ m = leb-true (length s) m q.0 in
    omega (arith, length-append s (42 ∷ starred (t ∷ stars) closed), stars_short most (t ∷ stars) closed p.1)

-- a tag's spelling is no longer than its row's longest
tag_short : (v : Tag) → IsTag v → length (spelling v) ≤ longest (row_of v.no)
tag_short v h =
    let fixed : length v.fixed ≡ length (classes v.no) = (fill-run (classes v.no) v.fixed h.filled).1 in
    let stars : length (starred v.stars v.closed) ≤ total (λ m. m + 1) (maxima v.no) = stars_short (maxima v.no) v.stars v.closed h.fitting in
    omega (arith, length-append (braced v.no ++ v.fixed) (starred v.stars v.closed), length-append (braced v.no) v.fixed, fixed, stars, sum_total (λ m. m + 1) (maxima v.no))

-- a tag with two bytes after it
abbrev room_of : ℕ → ℕ
room_of n = longest (row_of n) + 2

joined_short : (sep end : List ℕ) (tags : List Tag) → length sep ≤ 2 → length end ≤ 2 → EachTag tags → length (joined sep end tags) ≤ total room_of (numbers tags)
joined_short sep end [] b e h = omega arith
joined_short sep end (v ∷ []) b e h = omega (arith, length-append (spelling v) end, tag_short v h.0)
joined_short sep end (v ∷ w ∷ tags) b e h =
    omega (arith, length-append (spelling v) (sep ++ joined sep end (w ∷ tags)), length-append sep (joined sep end (w ∷ tags)), tag_short v h.0, joined_short sep end (w ∷ tags) b e h.1)

-- what is left is no more
left_less : (f : ℕ → ℕ) (these ns : List ℕ) → total f (without these ns) ≤ total f ns
left_less f these [] = omega arith
left_less f these (n ∷ ns) =
    let more = left_less f these ns in
    elim (not (is_among these n)) as (λ t. total f (cond t (n ∷ without these ns) (without these ns)) ≤ f n + total f ns) [
      | true ↦ omega (arith, more)
      | false ↦ omega (arith, more)
    ]

-- without a number that is there, the sum is less by its part
one_less : (f : ℕ → ℕ) (n : ℕ) (ns : List ℕ) → is_among ns n ≡ true → f n + total f (without (n ∷ []) ns) ≤ total f ns
one_less f n [] e = absurd (let wrong : false ≡ true = e in cc)
one_less f n (m ∷ ns) e = by_test (λ h. one_less f n ns h) (eqb n m) refl (eqb m n) refl e
  where
    by_test : (is_among ns n ≡ true → f n + total f (without (n ∷ []) ns) ≤ total f ns) → (b : Bool) → eqb n m ≡ b → (c : Bool) → eqb m n ≡ c → c || is_among ns n ≡ true → f n + total f (cond (not (b || false)) (m ∷ without (n ∷ []) ns) (without (n ∷ []) ns)) ≤ f m + total f ns
    by_test more true is c same e =
        let here : f n ≡ f m = ap f (eqb-true n m is) in
        omega (arith, here, left_less f (n ∷ []) ns)
    by_test more false is true same e = absurd (eqb-false n m is (sym (eqb-true m n same)))
    by_test more false is false same e = omega (arith, more e)

-- a sum over numbers among others is no more than over all of these
among_less : (f : ℕ → ℕ) (ns all : List ℕ) → distinct ns ≡ true → list_all (is_among all) ns ≡ true → total f ns ≤ total f all
among_less f [] all d e = omega arith
among_less f (n ∷ ns) all d e =
    let p = and_parts (not (is_among ns n)) (distinct ns) d in
    let q = and_parts (is_among all n) (list_all (is_among all) ns) e in
    let rest = among_less f ns (without (n ∷ []) all) p.1 (others ns (not-true (is_among ns n) p.0) q.1) in
    omega (arith, rest, one_less f n all q.0)
  where
    others : (ms : List ℕ) → is_among ms n ≡ false → list_all (is_among all) ms ≡ true → list_all (is_among (without (n ∷ []) all)) ms ≡ true
    others [] a e = refl
    others (m ∷ ms) a e =
        let p = and_parts (is_among all m) (list_all (is_among all) ms) e in
        let q = or_parts (eqb m n) (is_among ms n) a in
        let apart : eqb n m ≡ false = ne_eqb n m (λ h. eqb-false m n q.0 (sym h)) in
        and_from (is_among (without (n ∷ []) all) m) (list_all (is_among (without (n ∷ []) all)) ms)
        (without_among (n ∷ []) all m p.0 (ap (λ (t : Bool). t || false) apart)) (others ms q.1 p.1)

all_short : total room_of tag_numbers ≡ longest_message
unfolding row_of
all_short = refl

among_tags : (form : Form) (ns : List ℕ) → list_all (is_among (permitted form)) ns ≡ true → list_all is_tag_number ns ≡ true
among_tags form [] e = refl
among_tags form (n ∷ ns) e =
    let p = and_parts (is_among (permitted form) n) (list_all (is_among (permitted form)) ns) e in
    and_from (is_tag_number n) (list_all is_tag_number ns) (all_at is_tag_number (permitted form) n (permitted_listed form) p.0) (among_tags form ns p.1)

-- no spelling is longer
pub message_short : (m : Content) (bytes : List ℕ) → Spells m bytes → length bytes ≤ longest_message
message_short m bytes h =
    let a = h.sound.tags_sound in
    let spelled : length bytes ≡ length (joined (between m.breaks) (ending m.breaks) m.tags) = ap length h.spelled in
    let short = joined_short (between m.breaks) (ending m.breaks) m.tags (between_short m.breaks) (ending_short m.breaks) a.each in
    let less = among_less room_of (numbers m.tags) tag_numbers a.apart (among_tags m.form (numbers m.tags) a.allowed) in
    omega (arith, spelled, short, less, all_short)
  where
    between_short : (breaks : Breaks) → length (between breaks) ≤ 2
    between_short Joined = omega arith
    between_short (Lf last) = omega arith
    between_short (CrLf last) = omega arith

    ending_short : (breaks : Breaks) → length (ending breaks) ≤ 2
    ending_short Joined = omega arith
    ending_short (Lf true) = omega arith
    ending_short (Lf false) = omega arith
    ending_short (CrLf true) = omega arith
    ending_short (CrLf false) = omega arith
