-- A draft with an identifier is a submission.
use Rattle.std.proofs.Common.{◌≡◌, ℕ, suc, ◌+◌, ◌<◌, ◌≤◌, Bool, true, false, cond, eqb, not, ◌&&◌, ◌||◌, List, [], ◌∷◌, ◌++◌, length, Some, None, ◌⊎◌, refl, sym, ap, subst, ◌∙◌, arith, inl, inr}
use Rattle.std.specs.Prelude.{◌==◌}
use Rattle.std.specs.List.{list_all, insert, position, position_or_len}
use Rattle.std.proofs.lemmas.Bool.{and_parts, and_from, or_parts, or_from, or_cases, or_left, or_right, eq-eqb, ne_eqb, eqb-false, cases_lt, lt-ltb, le-ltb, not-true, not_from_false}
use Rattle.std.proofs.lemmas.List.Edits.{insert_end}
use Rattle.faim_tags.specs.Spelling.{Tag, IsTag}
use Rattle.faim_tags.specs.Reading.{is_among}
use Rattle.faim_message.specs.declared.form.Form.TheVariants.{Input, Draft}
use Rattle.faim_message.specs.declared.form.Breaks.{Breaks}
use Rattle.faim_message.specs.Forms.{mandatory, permitted}
use Rattle.faim_message.specs.Spelling.{IsMessage, EachTag, numbers, distinct, leads, is_complete}
use Rattle.faim_message.specs.Numbering.{put_after}
use Rattle.faim_message.proofs.Numbers.{all_at}

-- a property of the tags with one more, by whether the first has the number
by_first : (P : List Tag → Type 0) (n : ℕ) (t v : Tag) (tags : List Tag) → P (v ∷ t ∷ tags) → P (v ∷ put_after n t tags) → P (put_after n t (v ∷ tags))
by_first P n t v tags here later = elim (eqb v.no n) as (λ b. P (cond b (v ∷ t ∷ tags) (v ∷ put_after n t tags))) [ true ↦ here | false ↦ later ]

each-put : (n : ℕ) (t : Tag) (tags : List Tag) → IsTag t → EachTag tags → EachTag (put_after n t tags)
each-put n t [] h e = (h, tt)
each-put n t (v ∷ tags) h e = by_first EachTag n t v tags (e.0, (h, e.1)) (e.0, each-put n t tags h e.1)

all-put : (p : ℕ → Bool) (n : ℕ) (t : Tag) (tags : List Tag) → p t.no ≡ true → list_all p (numbers tags) ≡ true → list_all p (numbers (put_after n t tags)) ≡ true
all-put p n t [] h e = and_from (p t.no) true h refl
all-put p n t (v ∷ tags) h e =
    let q = and_parts (p v.no) (list_all p (numbers tags)) e in
    by_first (λ ts. list_all p (numbers ts) ≡ true) n t v tags
    (and_from (p v.no) (p t.no && list_all p (numbers tags)) q.0 (and_from (p t.no) (list_all p (numbers tags)) h q.1))
    (and_from (p v.no) (list_all p (numbers (put_after n t tags))) q.0 (all-put p n t tags h q.1))

-- a number that is another than the new tag's is there no more than before
absent-put : (n k : ℕ) (t : Tag) (tags : List Tag) → eqb t.no k ≡ false → is_among (numbers tags) k ≡ false → is_among (numbers (put_after n t tags)) k ≡ false
absent-put n k t [] h e = rw h refl
absent-put n k t (v ∷ tags) h e =
    let q = or_parts (eqb v.no k) (is_among (numbers tags) k) e in
    by_first (λ ts. is_among (numbers ts) k ≡ false) n t v tags
    (or_from (eqb v.no k) (eqb t.no k || is_among (numbers tags) k) q.0 (or_from (eqb t.no k) (is_among (numbers tags) k) h q.1))
    (or_from (eqb v.no k) (is_among (numbers (put_after n t tags)) k) q.0 (absent-put n k t tags h q.1))

distinct-put : (n : ℕ) (t : Tag) (tags : List Tag) → is_among (numbers tags) t.no ≡ false → distinct (numbers tags) ≡ true → distinct (numbers (put_after n t tags)) ≡ true
distinct-put n t [] a d = refl
distinct-put n t (v ∷ tags) a d =
    let p = and_parts (not (is_among (numbers tags) v.no)) (distinct (numbers tags)) d in
    let q = or_parts (eqb v.no t.no) (is_among (numbers tags) t.no) a in
    let other : eqb t.no v.no ≡ false = ne_eqb t.no v.no (λ h. eqb-false v.no t.no q.0 (sym h)) in
    let apart : is_among (numbers tags) v.no ≡ false = not-true (is_among (numbers tags) v.no) p.0 in
    by_first (λ ts. distinct (numbers ts) ≡ true) n t v tags
    (and_from (not (eqb t.no v.no || is_among (numbers tags) v.no)) (not (is_among (numbers tags) t.no) && distinct (numbers tags)) (not_from_false _ (or_from (eqb t.no v.no) (is_among (numbers tags) v.no) other apart))
    (and_from (not (is_among (numbers tags) t.no)) (distinct (numbers tags)) (not_from_false _ q.1) p.1))
    (and_from (not (is_among (numbers (put_after n t tags)) v.no)) (distinct (numbers (put_after n t tags))) (not_from_false _ (absent-put n v.no t tags other apart)) (distinct-put n t tags q.1 p.1))

-- the new tag is there
there-put : (n : ℕ) (t : Tag) (tags : List Tag) → is_among (numbers (put_after n t tags)) t.no ≡ true
there-put n t [] = or_left (eqb t.no t.no) false (eq-eqb t.no t.no refl)
there-put n t (v ∷ tags) =
    by_first (λ ts. is_among (numbers ts) t.no ≡ true) n t v tags
    (or_right (eqb v.no t.no) (eqb t.no t.no || is_among (numbers tags) t.no) (or_left (eqb t.no t.no) (is_among (numbers tags) t.no) (eq-eqb t.no t.no refl)))
    (or_right (eqb v.no t.no) (is_among (numbers (put_after n t tags)) t.no) (there-put n t tags))

-- and the others are still there
still-put : (n k : ℕ) (t : Tag) (tags : List Tag) → is_among (numbers tags) k ≡ true → is_among (numbers (put_after n t tags)) k ≡ true
still-put n k t [] e = absurd (let wrong : false ≡ true = e in cc)
still-put n k t (v ∷ tags) e =
    by_first (λ ts. is_among (numbers ts) k ≡ true) n t v tags
    (deeper (eqb v.no k) (eqb t.no k) (is_among (numbers tags) k) e)
    (elim (or_cases (eqb v.no k) (is_among (numbers tags) k) e) [
      | inl same ↦ or_left (eqb v.no k) (is_among (numbers (put_after n t tags)) k) same
      | inr more ↦ or_right (eqb v.no k) (is_among (numbers (put_after n t tags)) k) (still-put n k t tags more)
    ])
  where
    deeper : (x y z : Bool) → x || z ≡ true → x || (y || z) ≡ true
    deeper true y z e = refl
    deeper false true z e = refl
    deeper false false z e = e

leads-put : (n m : ℕ) (t : Tag) (tags : List Tag) → leads m tags ≡ true → leads m (put_after n t tags) ≡ true
leads-put n m t [] e = absurd (let wrong : false ≡ true = e in cc)
leads-put n m t (v ∷ tags) e = by_first (λ ts. leads m ts ≡ true) n t v tags e e

-- what a draft may have a submission may have
may_have : (k : ℕ) → is_among (permitted Draft) k ≡ true → is_among (permitted Input) k ≡ true
unfolding permitted
may_have k e = all_at (is_among (permitted Input)) (permitted Draft) k refl e

weaker : (p q : ℕ → Bool) (ns : List ℕ) → ((k : ℕ) → p k ≡ true → q k ≡ true) → list_all p ns ≡ true → list_all q ns ≡ true
weaker p q [] h e = refl
weaker p q (n ∷ ns) h e = let r = and_parts (p n) (list_all p ns) e in and_from (q n) (list_all q ns) (h n r.0) (weaker p q ns h r.1)

not_in_draft : is_among (permitted Draft) 1520 ≡ false
unfolding permitted
not_in_draft = refl

in_input : is_among (permitted Input) 1520 ≡ true
unfolding permitted
in_input = refl

-- a draft has no identifier
unnumbered : (tags : List Tag) → list_all (is_among (permitted Draft)) (numbers tags) ≡ true → is_among (numbers tags) 1520 ≡ false
unnumbered tags a = absent (is_among (numbers tags) 1520) (λ h. all_at (is_among (permitted Draft)) (numbers tags) 1520 a h)
  where
    absent : (b : Bool) → (b ≡ true → is_among (permitted Draft) 1520 ≡ true) → b ≡ false
    absent true h = absurd (let wrong : true ≡ false = sym (h refl) ∙ not_in_draft in cc)
    absent false h = refl

-- the mandatory tags are there with the identifier
complete-put : (n : ℕ) (t : Tag) (tags : List Tag) → t.no ≡ 1520 → is_complete Draft tags ≡ true → is_complete Input (put_after n t tags) ≡ true
complete-put n t tags is c =
    let has : ℕ → Bool = is_among (numbers (put_after n t tags)) in
    let kept : list_all has (mandatory Draft) ≡ true = weaker (is_among (numbers tags)) has (mandatory Draft) (λ k h. still-put n k t tags h) c in
    let P : ℕ → Type 0 = λ k. has k ≡ true in
    let own : has 1520 ≡ true = subst P is (there-put n t tags) in
    with_own (has 1500) (has 1510) (has 1520) (list_all has (2000 ∷ 3100 ∷ 3400 ∷ 3600 ∷ [])) own kept
  where
    with_own : (a b c d : Bool) → c ≡ true → a && (b && d) ≡ true → a && (b && (c && d)) ≡ true
    with_own a b c d e f = rw e f

-- a draft's tags with the identifier are a submission's
pub IsMessage-put : (breaks : Breaks) (n : ℕ) (t : Tag) (tags : List Tag) → t.no ≡ 1520 → IsTag t → IsMessage (record { form = Draft; breaks = breaks; tags = tags }) → IsMessage (record { form = Input; breaks = breaks; tags = put_after n t tags })
IsMessage-put breaks n t tags is h m =
    let a = m.tags_sound in
    let P : ℕ → Type 0 = λ k. is_among (permitted Input) k ≡ true in
    let Q : ℕ → Type 0 = λ k. is_among (numbers tags) k ≡ false in
    record {
      tags_sound = record {
        each = each-put n t tags h a.each;
        apart = distinct-put n t tags (subst Q (sym is) (unnumbered tags a.allowed)) a.apart;
        allowed = all-put (is_among (permitted Input)) n t tags (subst P (sym is) in_input) (weaker (is_among (permitted Draft)) (is_among (permitted Input)) (numbers tags) may_have a.allowed);
        led = leads-put n 1500 t tags a.led;
      };
      complete = complete-put n t tags is m.complete;
    }

abbrev first_at : ℕ → List Tag → ℕ
first_at n tags = position_or_len (λ v. v.no == n) tags

-- where the number is found, the new tag comes right after it
pub placed_at : (n : ℕ) (t : Tag) (tags : List Tag) → first_at n tags < length tags → insert tags (first_at n tags + 1) t ≡ put_after n t tags
placed_at n t [] lt = absurd (omega arith)
placed_at n t (v ∷ tags) lt = by_test (λ h. placed_at n t tags h) (eqb v.no n) lt
  where
    by_test : (first_at n tags < length tags → insert tags (first_at n tags + 1) t ≡ put_after n t tags) → (b : Bool) → cond (not b) (1 + first_at n tags) 0 < suc (length tags) → insert (v ∷ tags) (cond (not b) (1 + first_at n tags) 0 + 1) t ≡ cond b (v ∷ t ∷ tags) (v ∷ put_after n t tags)
    by_test more true lt = refl
    by_test more false lt =
        let next : 1 + first_at n tags + 1 ≡ suc (first_at n tags + 1) = omega arith in
        ap (λ (k : ℕ). insert (v ∷ tags) k t) next ∙ ap (λ (ts : List Tag). v ∷ ts) (more (omega arith))

-- where it isn't, it comes at the end
pub placed_last : (n : ℕ) (t : Tag) (tags : List Tag) → length tags ≤ first_at n tags → tags ++ t ∷ [] ≡ put_after n t tags
placed_last n t [] le = refl
placed_last n t (v ∷ tags) le = by_test (λ h. placed_last n t tags h) (eqb v.no n) le
  where
    by_test : (length tags ≤ first_at n tags → tags ++ t ∷ [] ≡ put_after n t tags) → (b : Bool) → suc (length tags) ≤ cond (not b) (1 + first_at n tags) 0 → v ∷ tags ++ t ∷ [] ≡ cond b (v ∷ t ∷ tags) (v ∷ put_after n t tags)
    by_test more true le = absurd (omega arith)
    by_test more false le = ap (λ (ts : List Tag). v ∷ ts) (more (omega arith))

-- what a look-up of the place finds
pub found_place : (n k : ℕ) (t : Tag) (tags : List Tag) → position (λ v. v.no == n) tags ≡ Some k → insert tags (k + 1) t ≡ put_after n t tags
found_place n k t tags e = by_test (cases_lt (first_at n tags) (length tags))
  where
    by_test : (first_at n tags < length tags) ⊎ (length tags ≤ first_at n tags) → insert tags (k + 1) t ≡ put_after n t tags
    by_test (inl lt) =
        let at : Some (first_at n tags) ≡ Some k = sym (ap (λ (b : Bool). cond b (Some (first_at n tags)) None) (lt-ltb (first_at n tags) (length tags) lt)) ∙ e in
        let is : first_at n tags ≡ k = cc in
        ap (λ (j : ℕ). insert tags (j + 1) t) (sym is) ∙ placed_at n t tags lt
    by_test (inr le) =
        let none : None ≡ Some k = sym (ap (λ (b : Bool). cond b (Some (first_at n tags)) None) (le-ltb (first_at n tags) (length tags) le)) ∙ e in
        absurd cc

pub no_place : (n : ℕ) (t : Tag) (tags : List Tag) → position (λ v. v.no == n) tags ≡ None → insert tags (length tags) t ≡ put_after n t tags
no_place n t tags e = by_test (cases_lt (first_at n tags) (length tags))
  where
    by_test : (first_at n tags < length tags) ⊎ (length tags ≤ first_at n tags) → insert tags (length tags) t ≡ put_after n t tags
    by_test (inl lt) =
        let some : Some (first_at n tags) ≡ None = sym (ap (λ (b : Bool). cond b (Some (first_at n tags)) None) (lt-ltb (first_at n tags) (length tags) lt)) ∙ e in
        absurd cc
    by_test (inr le) = insert_end tags t ∙ placed_last n t tags le
