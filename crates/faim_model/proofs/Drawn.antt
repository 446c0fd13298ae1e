-- Where the members of lists come from that are made of other lists.
use Rattle.std.proofs.Common.{◌≡◌, ⊎_elim, sym, subst, ℕ, Bool, true, false, cond, List, [], ◌∷◌, map, take, drop, filter, Option, Some, None}
use Rattle.std.specs.List.{Contains, flat_map}
use Rattle.std.specs.Option.{option_to_list}
use Rattle.std.proofs.lemmas.List.{take-append-drop}
use Rattle.std.proofs.lemmas.List.Elements.{Contains-append_cases, Contains-append_left}
use Rattle.faim_model.proofs.Members.{first_in, first_or_later, later_in, none_in}

pub from_map : {A B : Type 0} (f : A → B) (xs : List A) (y : B) → Contains (map f xs) y → (x : A) × Contains xs x × (f x ≡ y)
from_map f [] y there = absurd (none_in y there)
from_map f (x ∷ xs) y there =
    ⊎_elim (λ (here : y ≡ f x). (x, first_in x xs, sym here))
    (λ (later : Contains (map f xs) y). let found = from_map f xs y later in (found.0, later_in x found.0 xs found.1, found.2))
    (first_or_later (f x) y (map f xs) there)

pub from_flat_map : {A B : Type 0} (f : A → List B) (xs : List A) (y : B) → Contains (flat_map f xs) y → (x : A) × Contains xs x × Contains (f x) y
from_flat_map f [] y there = absurd (none_in y there)
from_flat_map f (x ∷ xs) y there =
    ⊎_elim (λ (here : Contains (f x) y). (x, first_in x xs, here))
    (λ (later : Contains (flat_map f xs) y). let found = from_flat_map f xs y later in (found.0, later_in x found.0 xs found.1, found.2))
    (Contains-append_cases (f x) (flat_map f xs) y there)

pub from_take : {A : Type 0} (n : ℕ) (xs : List A) (y : A) → Contains (take n xs) y → Contains xs y
from_take n xs y there =
    subst (λ (l : List _). Contains l y) (take-append-drop n xs) (Contains-append_left (take n xs) (drop n xs) y there)

from_chosen : {A : Type 0} (x y : A) (xs rest : List A) (b : Bool) → Contains (cond b (x ∷ rest) rest) y → (Contains rest y → Contains xs y) → Contains (x ∷ xs) y
from_chosen x y xs rest true there later =
    ⊎_elim (λ (own : y ≡ x). subst (λ (z : _). Contains (x ∷ xs) z) (sym own) (first_in x xs)) (λ (more : Contains rest y). later_in x y xs (later more))
    (first_or_later x y rest there)
from_chosen x y xs rest false there later = later_in x y xs (later there)

pub from_filter : {A : Type 0} (p : A → Bool) (xs : List A) (y : A) → Contains (filter p xs) y → Contains xs y
from_filter p [] y there = there
from_filter p (x ∷ xs) y there = from_chosen x y xs (filter p xs) (p x) there (from_filter p xs y)

pub from_option : {A : Type 0} (o : Option A) (y : A) → Contains (option_to_list o) y → o ≡ Some y
from_option None y there = absurd (none_in y there)
from_option (Some x) y there =
    ⊎_elim (λ (here : y ≡ x). λ i. Some (sym here i)) (λ (later : Contains [] y). absurd (none_in y later)) (first_or_later x y [] there)

-- and where they go to
pub into_map : {A B : Type 0} (f : A → B) (xs : List A) (x : A) → Contains xs x → Contains (map f xs) (f x)
into_map f [] x there = absurd (none_in x there)
into_map {A} {B} f (y ∷ xs) x there =
    ⊎_elim (λ (here : x ≡ y). subst (λ (z : A). Contains (map f (y ∷ xs)) (f z)) (sym here) (first_in (f y) (map f xs)))
    (λ (later : Contains xs x). later_in (f y) (f x) (map f xs) (into_map f xs x later)) (first_or_later y x xs there)
