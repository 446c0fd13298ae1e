-- Searches of the tables are searches of what they hold.
use Rattle.std.proofs.Common.{◌≡◌, ℕ, suc, zero, ◌+◌, ◌≤◌, ◌==◌, Bool, true, false, cond, ◌&&◌, List, [], ◌∷◌, ◌++◌, length, map, filter, take, slice_get, Option, Some, None, refl, sym, ◌∙◌, ap, subst, arith, append-nil, append_assoc, length-append}
use Rattle.std.specs.Prelude.{bytes_eq}
use Rattle.std.specs.List.{find}
use Rattle.std.specs.Option.{option_map}
use Rattle.std.specs.Map.{lookup}
use Rattle.std.proofs.lemmas.List.Elements.{filter-append}
use Rattle.std.proofs.lemmas.Bool.Decides.{Decides-eqb, nat_tests}
use Rattle.std.proofs.lemmas.Slice.Eq.{bytes_eq-Decides}
use Rattle.std.proofs.lemmas.List.{take-map}
use Rattle.std.proofs.lemmas.Option.{slice_get_past}
use Rattle.host_index.specs.declared.keys.ImadKey.{ImadKey}
use Rattle.host_index.specs.declared.keys.Slot.{Slot}
use Rattle.host_index.specs.declared.keys.Sent.{Sent}
use Rattle.host_index.specs.Index.{Posted, Output, outputs_to, place_of, same_imad}
use Rattle.host_index.specs.Tables.{imad_of, posted_of, output_of, outputs_in, IsNext, AreNext}

abbrev pub same_key : ImadKey → ImadKey → Bool
same_key a b = (a.date == b.date) && (bytes_eq a.source b.source && (a.seq == b.seq))

abbrev pub same_slot : Slot → Slot → Bool
same_slot a b = bytes_eq a.dest b.dest && (a.number == b.number)

place_step : (k : ImadKey) (e : ImadKey × ℕ) (es : List (ImadKey × ℕ)) (b : Bool) → same_key k e.0 ≡ b → lookup (same_key k) es ≡ place_of (imad_of k) (map posted_of es)
    → lookup (same_key k) (e ∷ es) ≡ place_of (imad_of k) (map posted_of (e ∷ es))
place_step k e es true t rest =
    ap (λ (b : Bool). cond b (Some e.1) (lookup (same_key k) es)) t
    ∙ sym (ap (λ (b : Bool). option_map (λ (p : Posted). p.place) (cond b (Some (posted_of e)) (find (λ (p : Posted). same_imad (imad_of k) p.imad) (map posted_of es)))) t)
place_step k e es false f rest =
    ap (λ (b : Bool). cond b (Some e.1) (lookup (same_key k) es)) f ∙ rest
    ∙ sym (ap (λ (b : Bool). option_map (λ (p : Posted). p.place) (cond b (Some (posted_of e)) (find (λ (p : Posted). same_imad (imad_of k) p.imad) (map posted_of es)))) f)

pub place_found : (k : ImadKey) (es : List (ImadKey × ℕ)) → lookup (same_key k) es ≡ place_of (imad_of k) (map posted_of es)
place_found k [] = refl
place_found k (e ∷ es) = place_step k e es (same_key k e.0) refl (place_found k es)

pub passed : {A : Type 0} (p : A → Bool) (x : A) (xs : List A) → p x ≡ true → filter p (x ∷ xs) ≡ x ∷ filter p xs
passed p x xs t = ap (λ (b : Bool). cond b (x ∷ filter p xs) (filter p xs)) t

pub left_out : {A : Type 0} (p : A → Bool) (x : A) (xs : List A) → p x ≡ false → filter p (x ∷ xs) ≡ filter p xs
left_out p x xs f = ap (λ (b : Bool). cond b (x ∷ filter p xs) (filter p xs)) f

-- one more output, to the endpoint or to another
pub one_more : (d : List ℕ) (os : List Output) (o : Output) → bytes_eq d o.dest ≡ true → outputs_to d (os ++ o ∷ []) ≡ outputs_to d os ++ o ∷ []
one_more d os o t = filter-append (λ (o : Output). bytes_eq d o.dest) os (o ∷ []) ∙ ap (λ (l : List Output). outputs_to d os ++ l) (passed (λ (o : Output). bytes_eq d o.dest) o [] t)

pub one_other : (d : List ℕ) (os : List Output) (o : Output) → bytes_eq d o.dest ≡ false → outputs_to d (os ++ o ∷ []) ≡ outputs_to d os
one_other d os o f = filter-append (λ (o : Output). bytes_eq d o.dest) os (o ∷ []) ∙ ap (λ (l : List Output). outputs_to d os ++ l) (left_out (λ (o : Output). bytes_eq d o.dest) o [] f) ∙ append-nil (outputs_to d os)

abbrev pub output_to : List ℕ → Sent → Output
output_to d t = record { dest = d; at = t.at; place = t.place }

differs : (m k : ℕ) → k + 1 ≤ m → (m == k) ≡ false
differs m k lt = grind (arith, nat_tests)

-- what the table finds under a number, and what the endpoint's list has there
abbrev pub AgreeAt : Slot → List (Slot × Sent) → ℕ → Type 0
AgreeAt s es n = option_map (output_to s.dest) (lookup (same_slot s) es) ≡ slice_get (outputs_to s.dest (outputs_in es)) n

module _ (before : List Output) (e : Slot × Sent) (es : List (Slot × Sent)) (s : Slot) (next : IsNext before e)
    (rest : (m : ℕ) → s.number ≡ length (outputs_to s.dest (before ++ output_of e ∷ [])) + m → AgreeAt s es m) where
  found : (b : Bool) → same_slot s e.0 ≡ b → option_map (output_to s.dest) (lookup (same_slot s) (e ∷ es)) ≡ option_map (output_to s.dest) (cond b (Some e.1) (lookup (same_slot s) es))
  found b is = ap (λ (b : Bool). option_map (output_to s.dest) (cond b (Some e.1) (lookup (same_slot s) es))) is

  slot_test : (b c : Bool) → bytes_eq s.dest e.0.dest ≡ b → (s.number == e.0.number) ≡ c → same_slot s e.0 ≡ b && c
  slot_test b c p q = ap (λ (x : Bool). x && (s.number == e.0.number)) p ∙ ap (λ (x : Bool). b && x) q

  here : (m : ℕ) → s.number ≡ length (outputs_to s.dest before) + m → bytes_eq s.dest e.0.dest ≡ true
      → option_map (output_to s.dest) (lookup (same_slot s) (e ∷ es)) ≡ slice_get (output_of e ∷ outputs_to s.dest (outputs_in es)) m
  here zero at t =
      let same : s.dest ≡ e.0.dest = (bytes_eq-Decides s.dest e.0.dest).0 t in
      let before_same : length (outputs_to s.dest before) ≡ length (outputs_to e.0.dest before) = ap (λ (d : List ℕ). length (outputs_to d before)) same in
      let counted : e.0.number ≡ length (outputs_to e.0.dest before) = next.number in
      let number : s.number ≡ e.0.number = omega arith in
      found true (slot_test true true t ((Decides-eqb s.number e.0.number).1 number)) ∙ ap (λ (d : List ℕ). Some (output_to d e.1)) same
  here (suc m) at t =
      let same : s.dest ≡ e.0.dest = (bytes_eq-Decides s.dest e.0.dest).0 t in
      let before_same : length (outputs_to s.dest before) ≡ length (outputs_to e.0.dest before) = ap (λ (d : List ℕ). length (outputs_to d before)) same in
      let counted : e.0.number ≡ length (outputs_to e.0.dest before) = next.number in
      let above : e.0.number + 1 ≤ s.number = omega arith in
      let more : length (outputs_to s.dest (before ++ output_of e ∷ [])) ≡ length (outputs_to s.dest before) + 1 = ap length (one_more s.dest before (output_of e) t) ∙ length-append (outputs_to s.dest before) (output_of e ∷ []) in
      found false (slot_test true false t (differs s.number e.0.number above)) ∙ rest m (omega arith)

  found_step : (n : ℕ) → s.number ≡ length (outputs_to s.dest before) + n → (b : Bool) → bytes_eq s.dest e.0.dest ≡ b → AgreeAt s (e ∷ es) n
  found_step n at true t = here n at t ∙ ap (λ (l : List Output). slice_get l n) (sym (passed (λ (o : Output). bytes_eq s.dest o.dest) (output_of e) (outputs_in es) t))
  found_step n at false f =
      found false (ap (λ (x : Bool). x && (s.number == e.0.number)) f)
      ∙ rest n (at ∙ ap (λ (l : List Output). length l + n) (sym (one_other s.dest before (output_of e) f)))
      ∙ ap (λ (l : List Output). slice_get l n) (sym (left_out (λ (o : Output). bytes_eq s.dest o.dest) (output_of e) (outputs_in es) f))

-- the table finds an endpoint's output of a number where the endpoint's list has it
pub output_found : (before : List Output) (es : List (Slot × Sent)) (s : Slot) (n : ℕ) → AreNext before es → s.number ≡ length (outputs_to s.dest before) + n → AgreeAt s es n
output_found before [] s n next at = refl
output_found before (e ∷ es) s n next at =
    found_step before e es s next.0 (λ m is. output_found (before ++ output_of e ∷ []) es s m next.1 is) n at (bytes_eq s.dest e.0.dest) refl

nothing_mapped : {A B : Type 0} (f : A → B) (o : Option A) → option_map f o ≡ None → o ≡ None
nothing_mapped f None e = refl
nothing_mapped f (Some x) e = absurd cc

-- the next number is free
pub next_is_free : (es : List (Slot × Sent)) (s : Slot) → AreNext [] es → s.number ≡ length (outputs_to s.dest (outputs_in es)) → lookup (same_slot s) es ≡ None
next_is_free es s next at =
    nothing_mapped (output_to s.dest) (lookup (same_slot s) es)
    (output_found [] es s s.number next (omega arith) ∙ slice_get_past (outputs_to s.dest (outputs_in es)) s.number (omega arith))

-- one more output that may come next, and the first outputs
pub one_next : (before : List Output) (es : List (Slot × Sent)) (e : Slot × Sent) → AreNext before es → IsNext (before ++ outputs_in es) e → AreNext before (es ++ e ∷ [])
one_next before [] e next here = (subst (λ (l : List Output). IsNext l e) (append-nil before) here, tt)
one_next before (x ∷ es) e next here =
    (next.0, one_next (before ++ output_of x ∷ []) es e next.1 (subst (λ (l : List Output). IsNext l e) (sym (append_assoc before (output_of x ∷ []) (outputs_in es))) here))

pub first_next : (n : ℕ) (before : List Output) (es : List (Slot × Sent)) → AreNext before es → AreNext before (take n es)
first_next zero before es next = tt
first_next (suc n) before [] next = tt
first_next (suc n) before (e ∷ es) next = (next.0, first_next n (before ++ output_of e ∷ []) es next.1)

pub first_outputs : (n : ℕ) (es : List (Slot × Sent)) → outputs_in (take n es) ≡ take n (outputs_in es)
first_outputs n es = sym (take-map output_of n es)

pub first_imads : (n : ℕ) (es : List (ImadKey × ℕ)) → map posted_of (take n es) ≡ take n (map posted_of es)
first_imads n es = sym (take-map posted_of n es)
