-- What the tests ask an index before they add to it, and before they take an addition back.
use Rattle.std.proofs.Common.{◌≡◌, ℕ, ◌-◌, ◌==◌, true, false, List, [], ◌∷◌, ◌++◌, length, take, drop, get_or, refl, sym, ◌∙◌, ap, subst, arith}
use Rattle.std.proofs.lemmas.Bool.{and_from, eqb-true}
use Rattle.std.proofs.lemmas.List.{take_all}
use Rattle.faim_base.specs.declared.ids.OutPos.{OutPos}
use Rattle.host_index.specs.Index.{Index, Output, is_above, are_above, outputs_at, retrieved, places_of, after_roll, EndsInRoll}
use Rattle.host_index.proofs.Answering.{none_above}
use Rattle.host_index.proofs.TakenBack.{dests, roll_last}

no_places : (os : List Output) → length (places_of os) ≡ 0 → os ≡ []
no_places [] none = refl
no_places (o ∷ os) none = absurd (omega (arith, none))

-- where a retrieval has no places
pub nothing_found : (e : List ℕ) (p : OutPos) (os : List Output) (places xs : List ℕ) → places ≡ places_of (retrieved e p os) → xs ≡ places → (length xs == 0) ≡ true → is_above e p os ≡ true
nothing_found e p os places xs found same none =
    none_above os e p (no_places (retrieved e p os) (ap length (sym (same ∙ found)) ∙ eqb-true (length xs) 0 none))

-- the first of a list that isn't empty, and the others
pub first_and_rest : {A : Type 0} (xs : List A) (x : A) → (length xs == 0) ≡ false → get_or xs 0 x ≡ x → xs ≡ x ∷ take (length xs - 1) (drop 1 xs)
first_and_rest [] x some is = absurd cc
first_and_rest (y ∷ ys) x some is =
    let e : length (y ∷ ys) - 1 ≡ length ys = omega arith in
    ap (λ z. z ∷ ys) is ∙ ap (λ l. x ∷ l) (sym (ap (λ n. take n ys) e ∙ take_all (length ys) ys (omega arith)))

pub first_then_others : (place : ℕ) (ends rest : List (List ℕ × OutPos)) (end : List ℕ × OutPos) (os : List Output) → ends ≡ end ∷ rest → is_above end.0 end.1 os ≡ true
    → are_above place rest (os ++ outputs_at place (end ∷ [])) ≡ true → are_above place ends os ≡ true
first_then_others place ends rest end os is here later =
    subst (λ l. are_above place l os ≡ true) (sym is) (and_from _ _ here later)

pub ends_in : (i j : Index) (ends : List (List ℕ × OutPos)) (place : ℕ) (ds : List (List ℕ)) → j ≡ after_roll ends place i → ds ≡ dests ends → EndsInRoll ds j
ends_in i j ends place ds after same =
    subst (λ (x : Index). EndsInRoll ds x) (sym after) (subst (λ (l : List (List ℕ)). EndsInRoll l (after_roll ends place i)) (sym same) (roll_last i ends place))
