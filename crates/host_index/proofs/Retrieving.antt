-- What a retrieval finds, an output after another.
use Rattle.std.proofs.Common.{◌≡◌, ℕ, suc, zero, ◌+◌, ◌≤◌, Bool, true, false, not, List, [], ◌∷◌, ◌++◌, take, drop, slice_get, Option, Some, None, refl, sym, ◌∙◌, ap, arith}
use Rattle.std.specs.Option.{option_map}
use Rattle.std.specs.Map.{lookup}
use Rattle.std.proofs.lemmas.List.{map-append}
use Rattle.std.proofs.lemmas.List.Elements.{filter_agree}
use Rattle.faim_base.specs.declared.ids.OutPos.{OutPos}
use Rattle.host_index.specs.declared.keys.Slot.{Slot}
use Rattle.host_index.specs.declared.keys.Sent.{Sent}
use Rattle.host_index.specs.declared.limits.Limit.TheVariants.{Position}
use Rattle.host_index.specs.Index.{Output, outputs_to, is_from, places_of, retrieved, retrieval_limit}
use Rattle.host_index.specs.Limits.{is_within, count_before}
use Rattle.host_index.specs.Tables.{outputs_in, AreNext}
use Rattle.host_index.proofs.Found.{same_slot, output_to, output_found}
use Rattle.host_index.proofs.InOrder.{in_order, rest_after}
use Rattle.host_index.proofs.Counted.{within_closed}

get_after : (k i : ℕ) (xs : List Output) → slice_get xs (k + i) ≡ slice_get (drop k xs) i
get_after zero i xs = let e : 0 + i ≡ i = omega arith in ap (λ (n : ℕ). slice_get xs n) e
get_after (suc k) i [] = refl
get_after (suc k) i (x ∷ xs) = let e : suc k + i ≡ suc (k + i) = omega arith in ap (λ (n : ℕ). slice_get (x ∷ xs) n) e ∙ get_after k i xs

take_get : (xs : List Output) (i : ℕ) (x : Output) → slice_get xs i ≡ Some x → take (suc i) xs ≡ take i xs ++ x ∷ []
take_get [] i x e = absurd cc
take_get (y ∷ ys) zero x e = let s : y ≡ x = cc in ap (λ (z : Output). z ∷ []) s
take_get (y ∷ ys) (suc i) x e = ap (λ (l : List Output). y ∷ l) (take_get ys i x e)

take_end : (xs : List Output) (i n : ℕ) → slice_get xs i ≡ None → i ≤ n → take i xs ≡ take n xs
take_end [] zero zero e le = refl
take_end [] zero (suc n) e le = refl
take_end [] (suc i) zero e le = refl
take_end [] (suc i) (suc n) e le = refl
take_end (y ∷ ys) zero n e le = absurd cc
take_end (y ∷ ys) (suc i) zero e le = absurd (omega arith)
take_end (y ∷ ys) (suc i) (suc n) e le = ap (λ (l : List Output). y ∷ l) (take_end ys i n e (omega arith))

not_not : (b : Bool) → b ≡ not (not b)
not_not true = refl
not_not false = refl

-- the outputs of an endpoint from a place of its list on
abbrev pub rest_from : ℕ → List ℕ → List (Slot × Sent) → List Output
rest_from k d es = drop k (outputs_to d (outputs_in es))

pub retrieved_rest : (k : ℕ) (d : List ℕ) (p : OutPos) (es : List (Slot × Sent)) → AreNext [] es → k ≡ count_before (Position p) d (outputs_in es) → retrieved d p (outputs_in es) ≡ take retrieval_limit (rest_from k d es)
retrieved_rest k d p es next count =
    let xs = outputs_to d (outputs_in es) in
    ap (take retrieval_limit)
    (filter_agree (is_from p) (λ (o : Output). not (is_within (Position p) o.at)) (λ (o : Output). not_not (is_from p o)) xs
    ∙ rest_after (λ (o : Output). is_within (Position p) o.at) (within_closed (Position p)) xs (in_order d es next)
    ∙ ap (λ (n : ℕ). drop n xs) (sym count))

found_rest : (k i : ℕ) (d : List ℕ) (es : List (Slot × Sent)) (s : Slot) (o : Option Sent) → AreNext [] es → s.dest ≡ d → s.number ≡ k + i → o ≡ lookup (same_slot s) es → slice_get (rest_from k d es) i ≡ option_map (output_to d) o
found_rest k i d es s o next same number is =
    sym (get_after k i (outputs_to d (outputs_in es)))
    ∙ ap (λ (n : ℕ). slice_get (outputs_to d (outputs_in es)) n) (sym number)
    ∙ ap (λ (e : List ℕ). slice_get (outputs_to e (outputs_in es)) s.number) (sym same)
    ∙ sym (output_found [] es s s.number next (omega arith))
    ∙ ap (λ (e : List ℕ). option_map (output_to e) (lookup (same_slot s) es)) same
    ∙ ap (option_map (output_to d)) (sym is)

pub next_place : (k i : ℕ) (d : List ℕ) (es : List (Slot × Sent)) (s : Slot) (t : Sent) (places : List ℕ) → AreNext [] es → s.dest ≡ d → s.number ≡ k + i → Some t ≡ lookup (same_slot s) es
    → places ≡ places_of (take i (rest_from k d es)) → places ++ t.place ∷ [] ≡ places_of (take (i + 1) (rest_from k d es))
next_place k i d es s t places next same number is before =
    let e : i + 1 ≡ suc i = omega arith in
    ap (λ (l : List ℕ). l ++ t.place ∷ []) before
    ∙ sym (map-append (λ (o : Output). o.place) (take i (rest_from k d es)) (output_to d t ∷ []))
    ∙ ap places_of (sym (take_get (rest_from k d es) i (output_to d t) (found_rest k i d es s (Some t) next same number is)))
    ∙ ap (λ (n : ℕ). places_of (take n (rest_from k d es))) (sym e)

pub last_place : (k i : ℕ) (d : List ℕ) (p : OutPos) (es : List (Slot × Sent)) (s : Slot) (places : List ℕ) → AreNext [] es → s.dest ≡ d → s.number ≡ k + i → None ≡ lookup (same_slot s) es
    → i ≤ retrieval_limit → k ≡ count_before (Position p) d (outputs_in es) → places ≡ places_of (take i (rest_from k d es)) → places ≡ places_of (retrieved d p (outputs_in es))
last_place k i d p es s places next same number is le count before =
    before ∙ ap places_of (take_end (rest_from k d es) i retrieval_limit (found_rest k i d es s None next same number is) le ∙ sym (retrieved_rest k d p es next count))
