-- Numbers of tags: which are there, and which may come.
use Rattle.std.proofs.Common.{◌≡◌, ℕ, Bool, true, false, cond, eqb, not, ◌||◌, List, [], ◌∷◌, ◌++◌, refl, sym, ap, subst, inl, inr}
use Rattle.std.specs.List.{list_all}
use Rattle.std.proofs.lemmas.Bool.{and_parts, and_from, or_cases, or_left, or_right, eqb-true, eq-eqb, not-true, not_from_false, ne_eqb, eqb-false, both_ways}
use Rattle.faim_base.specs.Tags.{is_tag_number}
use Rattle.faim_tags.specs.Spelling.{Tag}
use Rattle.faim_tags.specs.Reading.{is_among}
use Rattle.faim_message.specs.declared.form.Form.{Form}
use Rattle.faim_message.specs.declared.form.Form.TheVariants.{Input, Draft, Output, Ack}
use Rattle.faim_message.specs.Forms.{first_of, mandatory, without, permitted}
use Rattle.faim_message.specs.Spelling.{numbers, distinct}
use Rattle.faim_message.specs.Stages.{open_numbers}

-- what is left of numbers is among them, and not among those that are taken away
pub among_without : (these ns : List ℕ) (n : ℕ) → is_among (without these ns) n ≡ true → (is_among ns n ≡ true) × (is_among these n ≡ false)
among_without these [] n e = absurd (let wrong : false ≡ true = e in cc)
among_without these (m ∷ ns) n e = kept these m ns n (is_among these m) refl (λ h. among_without these ns n h) e
  where
    kept : (these : List ℕ) (m : ℕ) (ns : List ℕ) (n : ℕ) (t : Bool) → is_among these m ≡ t → (is_among (without these ns) n ≡ true → (is_among ns n ≡ true) × (is_among these n ≡ false)) → is_among (cond (not t) (m ∷ without these ns) (without these ns)) n ≡ true → (is_among (m ∷ ns) n ≡ true) × (is_among these n ≡ false)
    kept these m ns n true e more h = let r = more h in (or_right (eqb m n) (is_among ns n) r.0, r.1)
    kept these m ns n false e more h =
        elim (or_cases (eqb m n) (is_among (without these ns) n) h) [
          | inl same ↦ let P : ℕ → Type 0 = λ j. is_among these j ≡ false in (or_left (eqb m n) (is_among ns n) same, subst P (eqb-true m n same) e)
          | inr later ↦ let r = more later in (or_right (eqb m n) (is_among ns n) r.0, r.1)
        ]

-- a number that is there and not taken away is left
pub without_among : (these ns : List ℕ) (n : ℕ) → is_among ns n ≡ true → is_among these n ≡ false → is_among (without these ns) n ≡ true
without_among these [] n e f = absurd (let wrong : false ≡ true = e in cc)
without_among these (m ∷ ns) n e f = kept these m ns n (is_among these m) refl (λ h. without_among these ns n h f) e f
  where
    kept : (these : List ℕ) (m : ℕ) (ns : List ℕ) (n : ℕ) (t : Bool) → is_among these m ≡ t → (is_among ns n ≡ true → is_among (without these ns) n ≡ true) → is_among (m ∷ ns) n ≡ true → is_among these n ≡ false → is_among (cond (not t) (m ∷ without these ns) (without these ns)) n ≡ true
    kept these m ns n true e more h f =
        elim (or_cases (eqb m n) (is_among ns n) h) [
          | inl same ↦ let P : ℕ → Type 0 = λ j. is_among these j ≡ true in absurd (both_ways (is_among these n) f (subst P (eqb-true m n same) e))
          | inr later ↦ more later
        ]
    kept these m ns n false e more h f =
        elim (or_cases (eqb m n) (is_among ns n) h) [
          | inl same ↦ or_left (eqb m n) (is_among (without these ns) n) same
          | inr later ↦ or_right (eqb m n) (is_among (without these ns) n) (more later)
        ]

pub numbers-append : (a b : List Tag) → numbers (a ++ b) ≡ numbers a ++ numbers b
numbers-append [] b = refl
numbers-append (v ∷ a) b = ap (λ (ns : List ℕ). v.no ∷ ns) (numbers-append a b)

-- more numbers have those that were there
pub among_left : (a b : List ℕ) (n : ℕ) → is_among a n ≡ true → is_among (a ++ b) n ≡ true
among_left [] b n e = absurd (let wrong : false ≡ true = e in cc)
among_left (m ∷ a) b n e =
    elim (or_cases (eqb m n) (is_among a n) e) [
      | inl same ↦ or_left (eqb m n) (is_among (a ++ b) n) same
      | inr later ↦ or_right (eqb m n) (is_among (a ++ b) n) (among_left a b n later)
    ]

pub among_last : (a : List ℕ) (n : ℕ) → is_among (a ++ n ∷ []) n ≡ true
among_last [] n = or_left (eqb n n) false (eq-eqb n n refl)
among_last (m ∷ a) n = or_right (eqb m n) (is_among (a ++ n ∷ []) n) (among_last a n)

among_push : (a : List ℕ) (n m : ℕ) → is_among a m ≡ false → eqb n m ≡ false → is_among (a ++ n ∷ []) m ≡ false
among_push [] n m e f = ap (λ (t : Bool). t || false) f
among_push (k ∷ a) n m e f = both (eqb k m) (is_among a m) (is_among (a ++ n ∷ []) m) e (λ h. among_push a n m h f)
  where
    both : (x y z : Bool) → x || y ≡ false → (y ≡ false → z ≡ false) → x || z ≡ false
    both true y z e g = absurd (let wrong : true ≡ false = e in cc)
    both false y z e g = g e

pub distinct-push : (a : List ℕ) (n : ℕ) → distinct a ≡ true → is_among a n ≡ false → distinct (a ++ n ∷ []) ≡ true
distinct-push [] n d e = refl
distinct-push (m ∷ a) n d e =
    let p = and_parts (not (is_among a m)) (distinct a) d in
    let q = apart (eqb m n) (is_among a n) e in
    let r : eqb n m ≡ false = other m n q.0 in
    and_from (not (is_among (a ++ n ∷ []) m)) (distinct (a ++ n ∷ [])) (not_from_false (is_among (a ++ n ∷ []) m) (among_push a n m (not-true (is_among a m) p.0) r)) (distinct-push a n p.1 q.1)
  where
    apart : (x y : Bool) → x || y ≡ false → (x ≡ false) × (y ≡ false)
    apart true y e = absurd (let wrong : true ≡ false = e in cc)
    apart false y e = (refl, e)

    other : (m n : ℕ) → eqb m n ≡ false → eqb n m ≡ false
    other m n e = ne_eqb n m (λ h. eqb-false m n e (sym h))

pub list_all-push : (p : ℕ → Bool) (a : List ℕ) (n : ℕ) → list_all p a ≡ true → p n ≡ true → list_all p (a ++ n ∷ []) ≡ true
list_all-push p [] n e h = and_from (p n) true h refl
list_all-push p (m ∷ a) n e h = let q = and_parts (p m) (list_all p a) e in and_from (p m) (list_all p (a ++ n ∷ [])) q.0 (list_all-push p a n q.1 h)

-- what holds of each of the numbers holds of one among them
pub all_at : (p : ℕ → Bool) (xs : List ℕ) (n : ℕ) → list_all p xs ≡ true → is_among xs n ≡ true → p n ≡ true
all_at p [] n h e = absurd (let wrong : false ≡ true = e in cc)
all_at p (x ∷ xs) n h e =
    let both = and_parts (p x) (list_all p xs) h in
    elim (or_cases (eqb x n) (is_among xs n) e) [
      | inl same ↦ let P : ℕ → Type 0 = λ m. p m ≡ true in subst P (eqb-true x n same) both.0
      | inr more ↦ all_at p xs n both.1 more
    ]

pub permitted_listed : (form : Form) → list_all is_tag_number (permitted form) ≡ true
unfolding permitted
permitted_listed Input = refl
permitted_listed Draft = refl
permitted_listed Output = refl
permitted_listed Ack = refl

pub first_permitted : (form : Form) → is_among (permitted form) (first_of form) ≡ true
unfolding permitted
first_permitted Input = refl
first_permitted Draft = refl
first_permitted Output = refl
first_permitted Ack = refl

pub mandatory_permitted : (form : Form) → list_all (is_among (permitted form)) (mandatory form) ≡ true
unfolding permitted
mandatory_permitted Input = refl
mandatory_permitted Draft = refl
mandatory_permitted Output = refl
mandatory_permitted Ack = refl

list_all-without : (p : ℕ → Bool) (these ns : List ℕ) → list_all p ns ≡ true → list_all p (without these ns) ≡ true
list_all-without p these [] e = refl
list_all-without p these (n ∷ ns) e =
    let q = and_parts (p n) (list_all p ns) e in
    elim (not (is_among these n)) as (λ t. list_all p (cond t (n ∷ without these ns) (without these ns)) ≡ true) [
      | true ↦ and_from (p n) (list_all p (without these ns)) q.0 (list_all-without p these ns q.1)
      | false ↦ list_all-without p these ns q.1
    ]

-- each number that may come is a tag's
pub open_listed : (form : Form) (tags : List Tag) → list_all is_tag_number (open_numbers form tags) ≡ true
open_listed Input [] = refl
open_listed Draft [] = refl
open_listed Output [] = refl
open_listed Ack [] = refl
open_listed form (v ∷ tags) = list_all-without is_tag_number (numbers (v ∷ tags)) (permitted form) (permitted_listed form)

-- a number that may come is permitted and isn't there yet
pub open_is : (form : Form) (tags : List Tag) (n : ℕ) → is_among (open_numbers form tags) n ≡ true → (is_among (permitted form) n ≡ true) × (is_among (numbers tags) n ≡ false)
open_is form [] n e =
    elim (or_cases (eqb (first_of form) n) false e) [
      | inl same ↦ let P : ℕ → Type 0 = λ m. is_among (permitted form) m ≡ true in (subst P (eqb-true (first_of form) n same) (first_permitted form), refl)
      | inr never ↦ absurd (let wrong : false ≡ true = never in cc)
    ]
open_is form (v ∷ tags) n e = among_without (numbers (v ∷ tags)) (permitted form) n e
