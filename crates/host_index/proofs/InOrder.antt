-- The outputs of an endpoint are in order, so that those before a limit stand first.
use Rattle.std.proofs.Common.{◌≡◌, ℕ, suc, zero, ◌≤◌, Bool, true, false, not, ◌&&◌, List, [], ◌∷◌, ◌++◌, length, filter, drop, slice_get, refl, sym, ◌∙◌, ap, subst, arith, append-nil, append_assoc}
use Rattle.std.specs.Prelude.{IsTrue, bytes_eq, nat_lt}
use Rattle.std.specs.List.{list_all}
use Rattle.std.specs.Option.{option_map_or}
use Rattle.std.proofs.lemmas.Bool.Decides.{nat_tests}
use Rattle.std.proofs.lemmas.Slice.Eq.{bytes_eq-Decides}
use Rattle.faim_base.specs.Numbers.{greatest_seq}
use Rattle.host_index.specs.declared.keys.Slot.{Slot}
use Rattle.host_index.specs.declared.keys.Sent.{Sent}
use Rattle.host_index.specs.Index.{Output, outputs_to, is_before, is_above}
use Rattle.host_index.specs.Tables.{output_of, outputs_in, IsNext, AreNext}
use Rattle.host_index.proofs.Found.{passed, left_out, one_more, one_other}

pub both : (a b : Bool) → a && b ≡ true → (a ≡ true) × (b ≡ true)
both true b h = (refl, h)
both false b h = absurd cc

pub all_push : {A : Type 0} (p : A → Bool) (xs : List A) (x : A) → list_all p xs ≡ true → p x ≡ true → list_all p (xs ++ x ∷ []) ≡ true
all_push p [] x all here = rw here refl
all_push p (y ∷ ys) x all here = let h = both (p y) (list_all p ys) all in rw h.0 (all_push p ys x h.1 here)

pub all_imply : {A : Type 0} (p q : A → Bool) (xs : List A) → ((x : A) → p x ≡ true → q x ≡ true) → list_all p xs ≡ true → list_all q xs ≡ true
all_imply p q [] f all = refl
all_imply p q (x ∷ xs) f all = let h = both (p x) (list_all p xs) all in rw (f x h.0) (all_imply p q xs f h.1)

-- each output stands before those after it
abbrev pub IsInOrder : List Output → Type 0
IsInOrder [] = Unit {0}
IsInOrder (x ∷ xs) = (x.at.seq ≤ greatest_seq) × IsTrue (list_all (λ (y : Output). is_before y.at x) xs) × IsInOrder xs

order_push : (xs : List Output) (o : Output) → IsInOrder xs → o.at.seq ≤ greatest_seq → list_all (is_before o.at) xs ≡ true → IsInOrder (xs ++ o ∷ [])
order_push [] o order range all = (range, refl, tt)
order_push (x ∷ xs) o order range all =
    let h = both (is_before o.at x) (list_all (is_before o.at) xs) all in
    (order.0, all_push (λ (y : Output). is_before y.at x) xs o order.1 h.0, order_push xs o order.2 range h.1)

order_kept : (d : List ℕ) (before : List Output) (e : Slot × Sent) → IsNext before e → IsInOrder (outputs_to d before) → (b : Bool) → bytes_eq d e.0.dest ≡ b → IsInOrder (outputs_to d (before ++ output_of e ∷ []))
order_kept d before e next order true t =
    let same : d ≡ e.0.dest = (bytes_eq-Decides d e.0.dest).0 t in
    subst IsInOrder (sym (one_more d before (output_of e) t))
    (order_push (outputs_to d before) (output_of e) order next.range (ap (λ (c : List ℕ). is_above c e.1.at before) same ∙ next.above))
order_kept d before e next order false f = subst IsInOrder (sym (one_other d before (output_of e) f)) order

pub in_order_after : (d : List ℕ) (before : List Output) (es : List (Slot × Sent)) → AreNext before es → IsInOrder (outputs_to d before) → IsInOrder (outputs_to d (before ++ outputs_in es))
in_order_after d before [] next order = subst (λ (l : List Output). IsInOrder (outputs_to d l)) (sym (append-nil before)) order
in_order_after d before (e ∷ es) next order =
    subst (λ (l : List Output). IsInOrder (outputs_to d l)) (append_assoc before (output_of e ∷ []) (outputs_in es))
    (in_order_after d (before ++ output_of e ∷ []) es next.1 (order_kept d before e next.0 order (bytes_eq d e.0.dest) refl))

pub in_order : (d : List ℕ) (es : List (Slot × Sent)) → AreNext [] es → IsInOrder (outputs_to d (outputs_in es))
in_order d es next = in_order_after d [] es next tt

-- a test that holds of each output before one of which it holds
abbrev pub IsClosed : (Output → Bool) → Type 0
IsClosed p = (x y : Output) → is_before y.at x ≡ true → p y ≡ true → p x ≡ true

below : (m k : ℕ) → nat_lt m k ≡ nat_lt (suc m) (suc k)
below m k = grind (arith, nat_tests)

not_below : (m : ℕ) → nat_lt m 0 ≡ false
not_below m = grind (arith, nat_tests)

above_none : (k : ℕ) → true ≡ nat_lt 0 (suc k)
above_none k = grind (arith, nat_tests)

never : (m : ℕ) → nat_lt m 0 ≡ nat_lt (suc m) 0
never m = not_below m ∙ sym (not_below (suc m))

module _ (p : Output → Bool) (closed : IsClosed p) where
  none_step : (x y : Output) (ys : List Output) → p x ≡ false → is_before y.at x ≡ true → filter p ys ≡ [] → (b : Bool) → p y ≡ b → filter p (y ∷ ys) ≡ []
  none_step x y ys f here rest true t = let again : p x ≡ true = closed x y here t in absurd (cc (again, f))
  none_step x y ys f here rest false g = left_out p y ys g ∙ rest

  none_later : (x : Output) (ys : List Output) → p x ≡ false → list_all (λ (y : Output). is_before y.at x) ys ≡ true → filter p ys ≡ []
  none_later x [] f all = refl
  none_later x (y ∷ ys) f all =
      let h : (is_before y.at x ≡ true) × (list_all (λ (y : Output). is_before y.at x) ys ≡ true) = both (is_before y.at x) (list_all (λ (y : Output). is_before y.at x) ys) all in
      none_step x y ys f h.0 (none_later x ys f h.1) (p y) refl

  none_at_all : (x : Output) (xs : List Output) → p x ≡ false → list_all (λ (y : Output). is_before y.at x) xs ≡ true → filter p (x ∷ xs) ≡ []
  none_at_all x xs f all = left_out p x xs f ∙ none_later x xs f all

  reached_step : (x : Output) (xs : List Output) → list_all (λ (y : Output). is_before y.at x) xs ≡ true → ((m : ℕ) → option_map_or p (slice_get xs m) false ≡ nat_lt m (length (filter p xs)))
      → (b : Bool) → p x ≡ b → (n : ℕ) → option_map_or p (slice_get (x ∷ xs) n) false ≡ nat_lt n (length (filter p (x ∷ xs)))
  reached_step x xs all rest true t zero = t ∙ above_none (length (filter p xs)) ∙ ap (λ (l : List Output). nat_lt 0 (length l)) (sym (passed p x xs t))
  reached_step x xs all rest true t (suc m) = rest m ∙ below m (length (filter p xs)) ∙ ap (λ (l : List Output). nat_lt (suc m) (length l)) (sym (passed p x xs t))
  reached_step x xs all rest false f zero = f ∙ sym (not_below 0) ∙ ap (λ (l : List Output). nat_lt 0 (length l)) (sym (none_at_all x xs f all))
  reached_step x xs all rest false f (suc m) =
      rest m ∙ ap (λ (l : List Output). nat_lt m (length l)) (none_later x xs f all)
      ∙ never m ∙ ap (λ (l : List Output). nat_lt (suc m) (length l)) (sym (none_at_all x xs f all))

  -- an output passes the test exactly where its number is below the count of those that do
  pub reached : (xs : List Output) (n : ℕ) → IsInOrder xs → option_map_or p (slice_get xs n) false ≡ nat_lt n (length (filter p xs))
  reached [] n order = sym (not_below n)
  reached (x ∷ xs) n order = reached_step x xs order.1 (λ m. reached xs m order.2) (p x) refl n

  rest_step : (x : Output) (xs : List Output) → list_all (λ (y : Output). is_before y.at x) xs ≡ true → filter (λ (o : Output). not (p o)) xs ≡ drop (length (filter p xs)) xs
      → (b : Bool) → p x ≡ b → filter (λ (o : Output). not (p o)) (x ∷ xs) ≡ drop (length (filter p (x ∷ xs))) (x ∷ xs)
  rest_step x xs all rest true t =
      left_out (λ (o : Output). not (p o)) x xs (ap not t) ∙ rest
      ∙ ap (λ (l : List Output). drop (length l) (x ∷ xs)) (sym (passed p x xs t))
  rest_step x xs all rest false f =
      passed (λ (o : Output). not (p o)) x xs (ap not f)
      ∙ ap (λ (l : List Output). x ∷ l) (rest ∙ ap (λ (l : List Output). drop (length l) xs) (none_later x xs f all))
      ∙ ap (λ (l : List Output). drop (length l) (x ∷ xs)) (sym (none_at_all x xs f all))

  -- those that don't pass it stand after those that do
  pub rest_after : (xs : List Output) → IsInOrder xs → filter (λ (o : Output). not (p o)) xs ≡ drop (length (filter p xs)) xs
  rest_after [] order = refl
  rest_after (x ∷ xs) order = rest_step x xs order.1 (rest_after xs order.2) (p x) refl
