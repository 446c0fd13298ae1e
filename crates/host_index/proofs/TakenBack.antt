-- The last items of a list to which they were added are these items, and those before them the list.
use Rattle.std.proofs.Common.{◌≡◌, ℕ, suc, ◌-◌, List, [], ◌∷◌, ◌++◌, length, map, take, drop, Option, Some, None, refl, sym, ◌∙◌, ap, arith, length-append}
use Rattle.std.specs.Option.{option_map, option_to_list}
use Rattle.std.proofs.Math.Seq.{take-append_seam, drop-append_seam}
use Rattle.faim_base.specs.declared.ids.OutPos.{OutPos}
use Rattle.faim_base.specs.declared.ids.Imad.{Imad}
use Rattle.host_index.specs.Index.{Index, Output, Posted, outputs_at, last, without_last, after_posting, after_roll, EndsInPosting, EndsInRoll, before_posting, before_roll}

pub last_added : {A : Type 0} (n : ℕ) (xs ys : List A) → length ys ≡ n → last n (xs ++ ys) ≡ ys
last_added n xs ys is =
    let e : length (xs ++ ys) - n ≡ length xs = omega (arith, length-append xs ys, is) in
    ap (λ k. drop k (xs ++ ys)) e ∙ drop-append_seam xs ys

pub without_added : {A : Type 0} (n : ℕ) (xs ys : List A) → length ys ≡ n → without_last n (xs ++ ys) ≡ xs
without_added n xs ys is =
    let e : length (xs ++ ys) - n ≡ length xs = omega (arith, length-append xs ys, is) in
    ap (λ k. take k (xs ++ ys)) e ∙ take-append_seam xs ys

abbrev pub dests : List (List ℕ × OutPos) → List (List ℕ)
dests ends = map (λ end. end.0) ends

pub as_many : (place : ℕ) (ends : List (List ℕ × OutPos)) → length (outputs_at place ends) ≡ length (dests ends)
as_many place [] = refl
as_many place (end ∷ ends) = ap suc (as_many place ends)

pub same_dests : (place : ℕ) (ends : List (List ℕ × OutPos)) → map (λ (o : Output). o.dest) (outputs_at place ends) ≡ dests ends
same_dests place [] = refl
same_dests place (end ∷ ends) = ap (λ l. end.0 ∷ l) (same_dests place ends)

pub one_dest : (to : Option (List ℕ × OutPos)) → option_to_list (option_map (λ end. end.0) to) ≡ dests (option_to_list to)
one_dest None = refl
one_dest (Some end) = refl

abbrev pub dest_of : Option (List ℕ × OutPos) → Option (List ℕ)
dest_of to = option_map (λ end. end.0) to

many_given : (to : Option (List ℕ × OutPos)) (place : ℕ) → length (outputs_at place (option_to_list to)) ≡ length (option_to_list (dest_of to))
many_given to place = as_many place (option_to_list to) ∙ ap length (sym (one_dest to))

pub posting_last : (i : Index) (imad : Imad) (to : Option (List ℕ × OutPos)) (place : ℕ) → EndsInPosting imad (dest_of to) (after_posting imad to place i)
posting_last i imad to place =
    let own : Posted = record { imad = imad; place = place } in (
      ap (map (λ (p : Posted). p.imad)) (last_added 1 i.posted (own ∷ []) refl),
      ap (map (λ (o : Output). o.dest)) (last_added (length (option_to_list (dest_of to))) i.outputs (outputs_at place (option_to_list to)) (many_given to place))
          ∙ same_dests place (option_to_list to) ∙ sym (one_dest to),
    )

pub posting_back : (i : Index) (imad : Imad) (to : Option (List ℕ × OutPos)) (place : ℕ) → before_posting (dest_of to) (after_posting imad to place i) ≡ i
posting_back i imad to place =
    let own : Posted = record { imad = imad; place = place } in
    let posted = without_added 1 i.posted (own ∷ []) refl in
    let outputs = without_added (length (option_to_list (dest_of to))) i.outputs (outputs_at place (option_to_list to)) (many_given to place) in
    λ k. record { posted = posted k; outputs = outputs k }

pub roll_last : (i : Index) (ends : List (List ℕ × OutPos)) (place : ℕ) → EndsInRoll (dests ends) (after_roll ends place i)
roll_last i ends place =
    ap (map (λ (o : Output). o.dest)) (last_added (length (dests ends)) i.outputs (outputs_at place ends) (as_many place ends)) ∙ same_dests place ends

pub roll_back : (i : Index) (ends : List (List ℕ × OutPos)) (place : ℕ) → before_roll (dests ends) (after_roll ends place i) ≡ i
roll_back i ends place =
    let outputs = without_added (length (dests ends)) i.outputs (outputs_at place ends) (as_many place ends) in
    λ k. record { posted = i.posted; outputs = outputs k }
