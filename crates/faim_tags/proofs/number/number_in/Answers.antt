use Rattle.std.proofs.Common.{◌≡◌, ℕ, ◌+◌, List, [], ◌∷◌, get_or, take, arith}
use Rattle.faim_tags.proofs.number.number_in.Goals as goal

first_four : (xs : List ℕ) (a b c d : ℕ) → take 4 xs ≡ a ∷ b ∷ c ∷ d ∷ [] → (get_or xs 0 0 ≡ a) × (get_or xs 1 0 ≡ b) × (get_or xs 2 0 ≡ c) × (get_or xs 3 0 ≡ d)
first_four [] a b c d e = absurd cc
first_four (x ∷ []) a b c d e = absurd cc
first_four (x ∷ y ∷ []) a b c d e = absurd cc
first_four (x ∷ y ∷ z ∷ []) a b c d e = absurd cc
first_four (x ∷ y ∷ z ∷ w ∷ xs) a b c d e = (cc, cc, cc, cc)

pub returns : goal.returns
returns c m h t o lm lh lt lo is =
    let f = first_four c.args.bytes.now (48 + m) (48 + h) (48 + t) (48 + o) is in
    omega (arith, c.digit.ensures.value m lm f.0, c.digit-2.ensures.value h lh f.1, c.digit-3.ensures.value t lt f.2, c.digit-4.ensures.value o lo f.3)
