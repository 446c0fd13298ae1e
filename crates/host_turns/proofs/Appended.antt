-- Parts that are appended one after another.
use Rattle.std.proofs.Common.{◌≡◌, ℕ, zero, suc, ◌<◌, List, [], ◌∷◌, ◌++◌, length, take, drop, set, append_assoc, append-nil, sym, ◌∙◌, ap, refl, arith}
use Rattle.std.specs.List.{flat_map}
use Rattle.faim_tags.specs.Spelling.{Tag, spelling}
use Rattle.faim_message.specs.Spelling.{joined}

two_steps : (x a b y z : List ℕ) → y ≡ x ++ a → z ≡ y ++ b → z ≡ x ++ (a ++ b)
two_steps x a b y z first next = next ∙ ap (λ (l : List ℕ). l ++ b) first ∙ append_assoc x a b

-- three parts, each followed by another one
pub three_broken : (x a b c sep : List ℕ) (x1 x2 x3 x4 x5 x6 : List ℕ)
    → x1 ≡ x ++ a → x2 ≡ x1 ++ sep → x3 ≡ x2 ++ b → x4 ≡ x3 ++ sep → x5 ≡ x4 ++ c → x6 ≡ x5 ++ sep
    → x6 ≡ x ++ ((a ++ sep) ++ ((b ++ sep) ++ ((c ++ sep) ++ [])))
three_broken x a b c sep x1 x2 x3 x4 x5 x6 e1 e2 e3 e4 e5 e6 =
    let one = two_steps x a sep x1 x2 e1 e2 in
    let two = two_steps x2 b sep x3 x4 e3 e4 in
    let three = two_steps x4 c sep x5 x6 e5 e6 in
    let both = two_steps x (a ++ sep) (b ++ sep) x2 x4 one two in
    two_steps x ((a ++ sep) ++ (b ++ sep)) (c ++ sep) x4 x6 both three
    ∙ ap (λ (l : List ℕ). x ++ l) (append_assoc (a ++ sep) (b ++ sep) (c ++ sep) ∙ ap (λ (l : List ℕ). (a ++ sep) ++ ((b ++ sep) ++ l)) (sym (append-nil (c ++ sep))))

nothing_after : (a : List ℕ) → a ++ [] ≡ a
nothing_after a = append-nil a

-- the three tags and one more, joined
pub four_joined : (x x1 x2 : List ℕ) (a b c d : Tag) → x1 ≡ x ++ flat_map (λ t. spelling t ++ []) (a ∷ b ∷ c ∷ []) → x2 ≡ x1 ++ spelling d
    → x2 ≡ x ++ joined [] [] (a ∷ b ∷ c ∷ d ∷ [])
four_joined x x1 x2 a b c d first next =
    joins x x1 x2 (spelling a) (spelling b) (spelling c) (spelling d) first next
  where
    joins : (x x1 x2 a b c d : List ℕ) → x1 ≡ x ++ ((a ++ []) ++ ((b ++ []) ++ ((c ++ []) ++ []))) → x2 ≡ x1 ++ d
        → x2 ≡ x ++ (a ++ ([] ++ (b ++ ([] ++ (c ++ ([] ++ (d ++ [])))))))
    joins x x1 x2 a b c d first next =
        next ∙ ap (λ (l : List ℕ). l ++ d) first
        ∙ ap (λ (l : List ℕ). (x ++ (l ++ ((b ++ []) ++ ((c ++ []) ++ [])))) ++ d) (append-nil a)
        ∙ ap (λ (l : List ℕ). (x ++ (a ++ (l ++ ((c ++ []) ++ [])))) ++ d) (append-nil b)
        ∙ ap (λ (l : List ℕ). (x ++ (a ++ (b ++ l))) ++ d) (append-nil (c ++ []) ∙ append-nil c)
        ∙ append_assoc x (a ++ (b ++ c)) d
        ∙ ap (λ (l : List ℕ). x ++ l) (append_assoc a (b ++ c) d ∙ ap (λ (l : List ℕ). a ++ l) (append_assoc b c d))
        ∙ ap (λ (l : List ℕ). x ++ (a ++ (b ++ (c ++ l)))) (sym (append-nil d))

-- three tags, and what further ones give
pub then_joined : (x x1 x2 x3 x4 : List ℕ) (a b c : Tag) (more : List Tag) → x1 ≡ x ++ spelling a → x2 ≡ x1 ++ spelling b → x3 ≡ x2 ++ spelling c
    → x4 ≡ x3 ++ joined [] [] more → x4 ≡ x ++ joined [] [] (a ∷ b ∷ c ∷ more)
then_joined x x1 x2 x3 x4 a b c more e1 e2 e3 e4 =
    let two = two_steps x (spelling a) (spelling b) x1 x2 e1 e2 in
    let three = two_steps x2 (spelling c) (joined [] [] more) x3 x4 e3 e4 in
    two_steps x (spelling a ++ spelling b) (spelling c ++ joined [] [] more) x2 x4 two three
    ∙ ap (λ (l : List ℕ). x ++ l) (append_assoc (spelling a) (spelling b) (spelling c ++ joined [] [] more))
    ∙ ap (λ (l : List ℕ). x ++ (spelling a ++ (spelling b ++ l))) (last c more)
  where
    last : (c : Tag) (more : List Tag) → spelling c ++ joined [] [] more ≡ joined [] [] (c ∷ more)
    last c [] = refl
    last c (d ∷ more) = refl

-- a list with another item, from its parts
pub set_parts : (xs : List ℕ) (n y : ℕ) → n < length xs → set xs n y ≡ take n xs ++ y ∷ drop (suc n) xs
set_parts [] n y lt = absurd (omega (arith, lt))
set_parts (x ∷ xs) zero y lt = refl
set_parts (x ∷ xs) (suc n) y lt = ap (λ (l : List ℕ). x ∷ l) (set_parts xs n y (omega (arith, lt)))

pub text_written : (x x1 x2 x3 front rest xs : List ℕ) (n y : ℕ) → n < length xs → front ≡ take n xs → rest ≡ drop (suc n) xs
    → x1 ≡ x ++ front → x2 ≡ x1 ++ y ∷ [] → x3 ≡ x2 ++ rest → x3 ≡ x ++ set xs n y
text_written x x1 x2 x3 front rest xs n y lt is_front is_rest e1 e2 e3 =
    let two = two_steps x front (y ∷ []) x1 x2 e1 e2 in
    two_steps x (front ++ y ∷ []) rest x2 x3 two e3
    ∙ ap (λ (l : List ℕ). x ++ l) (append_assoc front (y ∷ []) rest)
    ∙ ap (λ (l : List ℕ). x ++ (l ++ y ∷ rest)) is_front
    ∙ ap (λ (l : List ℕ). x ++ (take n xs ++ y ∷ l)) is_rest
    ∙ ap (λ (l : List ℕ). x ++ l) (sym (set_parts xs n y lt))
