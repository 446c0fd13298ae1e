-- One tag byte by byte, without memory of its bytes: what is known of it tells what the next byte makes.
use Rattle.std.proofs.Common.{◌≡◌, ℕ, ◌+◌, ◌<◌, ◌≤◌, Bool, true, false, eqb, List, [], ◌∷◌, ◌++◌, length, get_or, set, take, drop, Option, Some, None, sym, ap, subst, ◌∙◌, arith, inl, inr}
use Rattle.std.specs.Prelude.{nat_eq, if◌then◌else◌}
use Rattle.std.specs.List.{list_all, starts_with}
use Rattle.std.proofs.lemmas.Bool.{cases_lt, ne_eqb, eq-eqb, eqb-true, or_cases, or_left, or_right}
use Rattle.std.proofs.lemmas.List.{length_push, length-take-le, take_all, take_more_set, take_more, take-append-drop}
use Rattle.std.proofs.Math.Seq.{take-append_seam}
use Rattle.faim_base.specs.Tags.{is_tag_number}
use Rattle.faim_tags.specs.Spelling.{braced}
use Rattle.faim_tags.specs.Reading.{is_among}
use Rattle.faim_tags.specs.Steps.{Progress, InNumber, Inside, numbers_begin, number_in, with_number, step}
use Rattle.faim_tags.specs.Partial.{StandsFor, BothStand, NextNumber, is_start}
use Rattle.faim_tags.specs.declared.partial.TagPart.{TagPart}
use Rattle.faim_tags.specs.declared.partial.TagPart.TheVariants.{Number}
use Rattle.faim_tags.proofs.Facts.{starts_with-split, starts_with-front, number_back}
use Rattle.faim_tags.proofs.NumberLemmas.{known_new}

pub front_with : (like count b : ℕ) → count < 6 → take (count + 1) (set (braced like) count b) ≡ take count (braced like) ++ b ∷ []
front_with like count b lt = take_more_set (braced like) count b lt

front_of : (n : ℕ) (front : List ℕ) → starts_with nat_eq (braced n) front ≡ true → take (length front) (braced n) ≡ front
front_of n front e = ap (take (length front)) (starts_with-split front (braced n) e) ∙ take-append_seam front (drop (length front) (braced n))

pub next_is : (ns : List ℕ) (like count b n : ℕ) (front : List ℕ) → count < 6 → front ≡ take count (braced like) ++ b ∷ [] → list_all is_tag_number ns ≡ true → is_among ns n ≡ true → starts_with nat_eq (braced n) front ≡ true → numbers_begin ns front ≡ true → NextNumber ns like count b n
next_is ns like count b n front lt is listed among starts begins =
    let P : List ℕ → Type 0 = λ t. numbers_begin ns t ≡ true in
    let long : length front ≡ count + 1 = ap length is ∙ length_push (take count (braced like)) b ∙ ap (λ (k : ℕ). k + 1) (length-take-le count (braced like) (omega arith)) in
    record {
      few = lt;
      among = among;
      listed = known_new ns n listed among;
      begins = subst P is begins;
      front = ap (λ (k : ℕ). take k (braced n)) (sym long) ∙ front_of n front starts ∙ is;
    }

numbers_from : (ns : List ℕ) (n : ℕ) (front : List ℕ) → is_among ns n ≡ true → starts_with nat_eq (braced n) front ≡ true → numbers_begin ns front ≡ true
numbers_from [] n front among e = absurd cc
numbers_from (m ∷ ns) n front among e =
    elim (or_cases (eqb m n) (is_among ns n) among) [
      | inl same ↦
          let P : ℕ → Type 0 = λ k. starts_with nat_eq (braced k) front ≡ true in
          or_left (starts_with nat_eq (braced m) front) (numbers_begin ns front) (subst P (sym (eqb-true m n same)) e)
      | inr later ↦ or_right (starts_with nat_eq (braced m) front) (numbers_begin ns front) (numbers_from ns n front later e)
    ]

-- the number itself goes on with the byte
pub next_same : (ns : List ℕ) (like count b : ℕ) → count < 6 → is_tag_number like ≡ true → is_among ns like ≡ true → get_or (braced like) count 0 ≡ b → NextNumber ns like count b like
next_same ns like count b lt listed among is =
    let front : take (count + 1) (braced like) ≡ take count (braced like) ++ b ∷ [] = take_more (braced like) count 0 lt ∙ ap (λ (x : ℕ). take count (braced like) ++ x ∷ []) is in
    let P : List ℕ → Type 0 = λ t. starts_with nat_eq t (take (count + 1) (braced like)) ≡ true in
    let Q : List ℕ → Type 0 = λ t. numbers_begin ns t ≡ true in
    record {
      few = lt;
      among = among;
      listed = listed;
      begins = subst Q front (numbers_from ns like (take (count + 1) (braced like)) among (subst P (take-append-drop (count + 1) (braced like)) (starts_with-front (take (count + 1) (braced like)) (drop (count + 1) (braced like)))));
      front = front;
    }

-- the number is read in part
number_part : (ns : List ℕ) (n count : ℕ) → count < 5 → numbers_begin ns (take (count + 1) (braced n)) ≡ true → with_number ns (take (count + 1) (braced n)) ≡ Some (InNumber (take (count + 1) (braced n)))
number_part ns n count lt begins =
    let given = take (count + 1) (braced n) in
    let short : eqb (length given) 6 ≡ false = ne_eqb (length given) 6 (λ x. omega (arith, length-take-le (count + 1) (braced n) (omega arith))) in
    ap (λ (t : Bool). if t then Some (if eqb (length given) 6 then Inside (number_in given) [] [] [] else InNumber given) else None) begins
    ∙ ap (λ (t : Bool). Some (if t then Inside (number_in given) [] [] [] else InNumber given)) short

-- the number is read to its end
number_whole : (ns : List ℕ) (n : ℕ) → is_tag_number n ≡ true → numbers_begin ns (braced n) ≡ true → with_number ns (braced n) ≡ Some (Inside n [] [] [])
number_whole ns n listed begins =
    ap (λ (t : Bool). if t then Some (Inside (number_in (braced n)) [] [] []) else None) begins ∙ ap (λ (m : ℕ). Some (Inside m [] [] [])) (number_back n listed)

pub number_on : (ns : List ℕ) (like count b n : ℕ) (t : TagPart) (given : List ℕ) → NextNumber ns like count b n → (count < 5 → is_among ns n ≡ true → StandsFor ns t (InNumber (take (count + 1) (braced n)))) → (5 ≤ count → StandsFor ns t (Inside n [] [] [])) → given ≡ take count (braced like) → BothStand ns (Some t) (with_number ns (given ++ b ∷ []))
number_on ns like count b n t given next part whole is =
    let P : List ℕ → Type 0 = λ x. BothStand ns (Some t) (with_number ns x) in
    let Q : List ℕ → Type 0 = λ x. numbers_begin ns x ≡ true in
    let R : Option Progress → Type 0 = λ o. BothStand ns (Some t) o in
    let same : given ++ b ∷ [] ≡ take (count + 1) (braced n) = ap (λ (x : List ℕ). x ++ b ∷ []) is ∙ sym next.front in
    let begins = subst Q (sym next.front) next.begins in
    subst P (sym same) (elim (cases_lt count 5) [
      | inl lt ↦ subst R (sym (number_part ns n count lt begins)) (part lt next.among)
      | inr ge ↦
          let all : take (count + 1) (braced n) ≡ braced n = take_all (count + 1) (braced n) (omega arith) in
          subst P (sym all) (subst R (sym (number_whole ns n next.listed (subst Q all begins))) (whole ge))
    ])

-- the next byte of the number that it began as
pub alike_on : (ns : List ℕ) (like count b : ℕ) (t : TagPart) (p : Progress) → 0 < count → count < 6 → is_tag_number like ≡ true → get_or (braced like) count 0 ≡ b
    → (count < 5 → is_among ns like ≡ true → StandsFor ns t (InNumber (take (count + 1) (braced like)))) → (5 ≤ count → StandsFor ns t (Inside like [] [] []))
    → StandsFor ns (Number like count) p → BothStand ns (Some t) (step ns p b)
alike_on ns like count b t (InNumber given) some few listed is part whole h =
    number_on ns like count b like t given (next_same ns like count b few listed (h.2 some) is) part whole h.1
alike_on ns like count b t (Inside m fs ss last) some few listed is part whole h = absurd h

-- nothing is read where no byte is
pub start_is : (ns : List ℕ) (t : TagPart) (like count : ℕ) → t ≡ Number like count → (p : Progress) → StandsFor ns t p → eqb count 0 ≡ is_start p
start_is ns t like count is p h = let P : TagPart → Type 0 = λ x. StandsFor ns x p in at p (subst P is h)
  where
    long : (given : List ℕ) → count < 6 → given ≡ take count (braced like) → length given ≡ count
    long given few e = ap length e ∙ length-take-le count (braced like) (omega arith)

    at : (p : Progress) → StandsFor ns (Number like count) p → eqb count 0 ≡ is_start p
    at (InNumber []) h = eq-eqb count 0 (sym (long [] h.0 h.1))
    at (InNumber (b ∷ given)) h = ne_eqb count 0 (λ none. omega (arith, long (b ∷ given) h.0 h.1))
    at (Inside n fs ss last) h = absurd h
