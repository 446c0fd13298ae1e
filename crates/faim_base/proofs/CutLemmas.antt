-- The parts that a text is cut into are those that it was joined from.
use Rattle.std.proofs.Common.{◌≡◌, ℕ, ◌+◌, List, ◌++◌, length, take, drop, append_assoc, sym}
use Rattle.std.proofs.Math.Seq.{take-add}
use Rattle.std.proofs.lemmas.List.{take_at, drop_at, drop-drop, take-append-drop}

-- what lies after a part
drop_next : (text part rest : List ℕ) (at n next : ℕ) → drop at text ≡ part ++ rest → length part ≡ n → at + n ≡ next → drop next text ≡ rest
drop_next text part rest at n next e f g =
    rw (sym g, sym (drop-drop n at text), e) (drop_at part rest n f)

take_next : (text part rest : List ℕ) (at n : ℕ) → drop at text ≡ part ++ rest → length part ≡ n → take n (drop at text) ≡ part
take_next text part rest at n e f = rw e (take_at part rest n f)

pub parts_of_three : (a b c : List ℕ) (i n j : ℕ) → length a ≡ i → length b ≡ n → i + n ≡ j → (take i (a ++ b ++ c) ≡ a) × (take n (drop i (a ++ b ++ c)) ≡ b) × (drop j (a ++ b ++ c) ≡ c)
parts_of_three a b c i n j la lb to_j =
    let flat : a ++ b ++ c ≡ a ++ (b ++ c) = append_assoc a b c in
    let second : drop i (a ++ b ++ c) ≡ b ++ c = rw flat (drop_at a (b ++ c) i la) in
    (rw flat (take_at a (b ++ c) i la), take_next (a ++ b ++ c) b c i n second lb, drop_next (a ++ b ++ c) b c i n j second lb to_j)

pub parts_of_four : (a b c d : List ℕ) (i n j k m : ℕ) → length a ≡ i → length b ≡ n → length c ≡ k → i + n ≡ j → j + k ≡ m → (take i (a ++ b ++ c ++ d) ≡ a) × (take n (drop i (a ++ b ++ c ++ d)) ≡ b) × (take k (drop j (a ++ b ++ c ++ d)) ≡ c) × (drop m (a ++ b ++ c ++ d) ≡ d)
parts_of_four a b c d i n j k m la lb lc to_j to_m =
    let text = a ++ b ++ c ++ d in
    let flat : text ≡ a ++ (b ++ (c ++ d)) = simp append_assoc in
    let second : drop i text ≡ b ++ (c ++ d) = rw flat (drop_at a (b ++ (c ++ d)) i la) in
    let third : drop j text ≡ c ++ d = drop_next text b (c ++ d) i n j second lb to_j in
    (rw flat (take_at a (b ++ (c ++ d)) i la), take_next text b (c ++ d) i n second lb, take_next text c d j k third lc, drop_next text c d j k m third lc to_m)

pub parts_of_five : (a b c d e : List ℕ) (i n j k m o p : ℕ) → length a ≡ i → length b ≡ n → length c ≡ k → length d ≡ o → i + n ≡ j → j + k ≡ m → m + o ≡ p → (take i (a ++ b ++ c ++ d ++ e) ≡ a) × (take n (drop i (a ++ b ++ c ++ d ++ e)) ≡ b) × (take k (drop j (a ++ b ++ c ++ d ++ e)) ≡ c) × (take o (drop m (a ++ b ++ c ++ d ++ e)) ≡ d) × (drop p (a ++ b ++ c ++ d ++ e) ≡ e)
parts_of_five a b c d e i n j k m o p la lb lc ld to_j to_m to_p =
    let text = a ++ b ++ c ++ d ++ e in
    let flat : text ≡ a ++ (b ++ (c ++ (d ++ e))) = simp append_assoc in
    let second : drop i text ≡ b ++ (c ++ (d ++ e)) = rw flat (drop_at a (b ++ (c ++ (d ++ e))) i la) in
    let third : drop j text ≡ c ++ (d ++ e) = drop_next text b (c ++ (d ++ e)) i n j second lb to_j in
    let fourth : drop m text ≡ d ++ e = drop_next text c (d ++ e) j k m third lc to_m in
    (rw flat (take_at a (b ++ (c ++ (d ++ e))) i la), take_next text b (c ++ (d ++ e)) i n second lb, take_next text c (d ++ e) j k third lc, take_next text d e m o fourth ld, drop_next text d e m o p fourth ld to_p)

-- the parts joined again
joined : (text : List ℕ) (at n next : ℕ) → at + n ≡ next → take at text ++ take n (drop at text) ≡ take next text
joined text at n next e = rw (sym e) (sym (take-add at n text))

pub join_three : (text : List ℕ) (i n j : ℕ) → i + n ≡ j → take i text ++ take n (drop i text) ++ drop j text ≡ text
join_three text i n j to_j = rw (joined text i n j to_j) (take-append-drop j text)

pub join_four : (text : List ℕ) (i n j k m : ℕ) → i + n ≡ j → j + k ≡ m → take i text ++ take n (drop i text) ++ take k (drop j text) ++ drop m text ≡ text
join_four text i n j k m to_j to_m = rw (joined text i n j to_j, joined text j k m to_m) (take-append-drop m text)

pub join_five : (text : List ℕ) (i n j k m o p : ℕ) → i + n ≡ j → j + k ≡ m → m + o ≡ p → take i text ++ take n (drop i text) ++ take k (drop j text) ++ take o (drop m text) ++ drop p text ≡ text
join_five text i n j k m o p to_j to_m to_p = rw (joined text i n j to_j, joined text j k m to_m, joined text m o p to_p) (take-append-drop p text)
