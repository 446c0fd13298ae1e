-- Taking a number away from those that are left, in place.
use Rattle.std.proofs.Common.{◌≡◌, ℕ, zero, suc, ◌+◌, ◌-◌, ◌<◌, ◌≤◌, Bool, true, false, not, cond, ltb, List, [], ◌∷◌, ◌++◌, length, get_or, take, drop, refl, sym, ap, subst, ◌∙◌, arith}
use Rattle.std.specs.Prelude.{filter, ◌==◌}
use Rattle.std.specs.List.{list_all}
use Rattle.std.proofs.lemmas.Bool.{and_parts, and_from, ltb-true, ne_eqb, eq-eqb}
use Rattle.std.proofs.lemmas.List.{drop_more, drop-drop, drop-take, get_or-drop, take-append-drop}
use Rattle.std.proofs.lemmas.List.Elements.{filter-append}
use Rattle.std.proofs.lemmas.Slice.{between-put_mid}
use Rattle.std.proofs.Math.Seq.{take-append_seam}
use borrow.Rule.Slice.PartMut.{put_mid}
use Rattle.faim_base.specs.Tags.{is_tag_number}
use Rattle.faim_message.specs.declared.form.Form.{Form}
use Rattle.faim_message.specs.declared.form.Form.TheVariants.{Input, Draft, Output, Ack}
use Rattle.faim_message.specs.Rising.{rising}
use Rattle.faim_message.specs.Forms.{permitted}
use Rattle.faim_message.proofs.Numbers.{permitted_listed}

same_at : (old new : List ℕ) (at : ℕ) → drop at new ≡ drop at old → get_or new at 0 ≡ get_or old at 0
same_at old new at e =
    let zero_more : at + 0 ≡ at = omega arith in
    ap (λ (k : ℕ). get_or new k 0) (sym zero_more) ∙ sym (get_or-drop at new 0 0) ∙ ap (λ (l : List ℕ). get_or l 0 0) e ∙ get_or-drop at old 0 0 ∙ ap (λ (k : ℕ). get_or old k 0) zero_more

-- what is left of numbers of tags are numbers of tags
pub list_all-filter : (p q : ℕ → Bool) (xs : List ℕ) → list_all q xs ≡ true → list_all q (filter p xs) ≡ true
list_all-filter p q [] e = refl
list_all-filter p q (x ∷ xs) e =
    let b = and_parts (q x) (list_all q xs) e in
    elim (p x) as (λ t. list_all q (cond t (x ∷ filter p xs) (filter p xs)) ≡ true) [
      | true ↦ and_from (q x) (list_all q (filter p xs)) b.0 (list_all-filter p q xs b.1)
      | false ↦ list_all-filter p q xs b.1
    ]

-- all that a form permits, at the front
pub front_is : (all new rest : List ℕ) (form : Form) → new ≡ all → all ≡ permitted form → take (length all - 0) (new ++ rest) ≡ permitted form
front_is all new rest form same is =
    let whole : length all - 0 ≡ length all = omega arith in
    ap (λ (k : ℕ). take k (new ++ rest)) whole ∙ ap (λ (l : List ℕ). take (length all) (l ++ rest)) same ∙ take-append_seam all rest ∙ is

pub front_listed : (all new rest : List ℕ) (form : Form) → new ≡ all → all ≡ permitted form → list_all is_tag_number (take (length all - 0) (new ++ rest)) ≡ true
front_listed all new rest form same is =
    let P : List ℕ → Type 0 = λ l. list_all is_tag_number l ≡ true in
    subst P (sym (front_is all new rest form same is)) (permitted_listed form)

permitted_rising : (form : Form) → rising (permitted form) ≡ true
unfolding permitted
permitted_rising Input = refl
permitted_rising Draft = refl
permitted_rising Output = refl
permitted_rising Ack = refl

pub front_rising : (all new rest : List ℕ) (form : Form) → new ≡ all → all ≡ permitted form → rising (take (length all - 0) (new ++ rest)) ≡ true
front_rising all new rest form same is =
    let P : List ℕ → Type 0 = λ l. rising l ≡ true in
    subst P (sym (front_is all new rest form same is)) (permitted_rising form)

pub rising-filter : (p : ℕ → Bool) (xs : List ℕ) → rising xs ≡ true → rising (filter p xs) ≡ true
rising-filter p [] e = refl
rising-filter p (x ∷ xs) e =
    let b = and_parts (list_all (λ m. ltb x m) xs) (rising xs) e in
    elim (p x) as (λ t. rising (cond t (x ∷ filter p xs) (filter p xs)) ≡ true) [
      | true ↦ and_from (list_all (λ m. ltb x m) (filter p xs)) (rising (filter p xs)) (list_all-filter p (λ m. ltb x m) xs b.0) (rising-filter p xs b.1)
      | false ↦ rising-filter p xs b.1
    ]

rising-drop : (xs : List ℕ) (k : ℕ) → rising xs ≡ true → rising (drop k xs) ≡ true
rising-drop xs zero e = e
rising-drop [] (suc k) e = refl
rising-drop (x ∷ xs) (suc k) e = rising-drop xs k (and_parts (list_all (λ m. ltb x m) xs) (rising xs) e).1

-- none of the numbers above one is it
above_kept : (x : ℕ) (xs : List ℕ) → list_all (λ m. ltb x m) xs ≡ true → filter (λ n. not (n == x)) xs ≡ xs
above_kept x [] e = refl
above_kept x (y ∷ xs) e =
    let b = and_parts (ltb x y) (list_all (λ m. ltb x m) xs) e in
    let lt = ltb-true x y b.0 in
    ap (λ (t : Bool). cond (not t) (y ∷ filter (λ n. not (n == x)) xs) (filter (λ n. not (n == x)) xs)) (ne_eqb y x (λ same. omega arith)) ∙ ap (λ (l : List ℕ). y ∷ l) (above_kept x xs b.1)

-- without one of them
pub one_out : (xs : List ℕ) (place x : ℕ) → place < length xs → rising xs ≡ true → get_or xs place 0 ≡ x → filter (λ n. not (n == x)) (take place xs) ≡ take place xs → take place xs ++ drop (place + 1) xs ≡ filter (λ n. not (n == x)) xs
one_out xs place x lt up here before =
    let p : ℕ → Bool = λ n. not (n == x) in
    let more = drop (place + 1) xs in
    let at : drop place xs ≡ x ∷ more = drop_more xs place 0 lt ∙ ap (λ (y : ℕ). y ∷ more) here in
    let P : List ℕ → Type 0 = λ l. rising l ≡ true in
    let above = (and_parts (list_all (λ m. ltb x m) more) (rising more) (subst P at (rising-drop xs place up))).0 in
    let gone : filter p (x ∷ more) ≡ filter p more = ap (λ (t : Bool). cond (not t) (x ∷ filter p more) (filter p more)) (eq-eqb x x refl) in
    sym (
    ap (filter p) (sym (take-append-drop place xs)) ∙ filter-append p (take place xs) (drop place xs)
    ∙ ap (λ (l : List ℕ). l ++ filter p (drop place xs)) before
    ∙ ap (λ (l : List ℕ). take place xs ++ filter p l) at
    ∙ ap (λ (l : List ℕ). take place xs ++ l) (gone ∙ above_kept x more above))

-- the numbers before a place are moved up as far down as another place
pub record Moved (old new : List ℕ) (place at : ℕ) : Type 0 where
  pub upto : at ≤ place
  pub size : length new ≡ length old
  pub front : take (at + 1) new ≡ take (at + 1) old
  pub rest : drop (at + 1) new ≡ drop at (take place old) ++ drop (place + 1) old

-- what is left of a part of numbers that was written, without the first ones
pub part_left : (numbers part : List ℕ) (start end gone : ℕ) → start ≤ length numbers → length part ≡ end - start → gone ≤ end - start → take (end - (start + gone)) (drop (start + gone) (put_mid start (end - start) numbers part)) ≡ drop gone part
part_left numbers part start end gone le size few =
    let new = put_mid start (end - start) numbers part in
    let whole : gone + (end - (start + gone)) ≡ end - start = omega (arith, few) in
    ap (take (end - (start + gone))) (sym (drop-drop gone start new)) ∙ sym (drop-take gone (end - (start + gone)) (drop start new))
    ∙ ap (λ (k : ℕ). drop gone (take k (drop start new))) whole ∙ ap (drop gone) (between-put_mid start (end - start) numbers part end le size)
