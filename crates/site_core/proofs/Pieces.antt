-- The rest of a list as a piece of it and what stands after that piece.
use Rattle.std.proofs.Common.{◌≡◌, ℕ, ◌-◌, ◌+◌, ◌≤◌, List, ◌++◌, take, drop, sym, ◌∙◌, ap, arith, take-append-drop}
use Rattle.std.proofs.lemmas.List.{drop-drop}

pub rest_by_piece : (xs : List ℕ) (at end : ℕ) → at ≤ end → drop at xs ≡ take (end - at) (drop at xs) ++ drop end xs
rest_by_piece xs at end le =
    let same : at + (end - at) ≡ end = omega arith in
    sym (take-append-drop (end - at) (drop at xs)) ∙ ap (λ (l : List ℕ). take (end - at) (drop at xs) ++ l) (drop-drop (end - at) at xs ∙ ap (λ n. drop n xs) same)
