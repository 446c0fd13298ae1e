-- How numbers follow from their digits, one digit more at a time.
use Rattle.std.proofs.Common.{◌≡◌, ℕ, zero, suc, ◌+◌, ◌-◌, ◌*◌, ◌/◌, ◌%◌, ◌^◌, ◌<◌, ◌≤◌, true, List, [], ◌∷◌, ◌++◌, length, length-append, append_assoc, take, drop, set, get_or, refl, sym, ◌∙◌, arith}
use Rattle.std.specs.List.{list_all}
use Rattle.std.proofs.Math.Nat.{pow-le-pow_right}
use Rattle.std.proofs.Math.Seq.{take-length}
use Rattle.std.proofs.lemmas.Bool.{and_parts}
use Rattle.std.proofs.lemmas.Bool.Decides.{nat_tests}
use Rattle.std.proofs.lemmas.List.{drop-set, take_more, take_all}
use Rattle.std.proofs.lemmas.List.Folds.{list_all-append, list_all_more}
use Rattle.std.proofs.lemmas.List.Sums.{fold-append, fold_more}
use Rattle.std.proofs.lemmas.Grind.{pow_more}
use Rattle.faim_base.specs.Text.{is_digit}
use Rattle.faim_base.specs.Digits.{number_of, padded}

pub number_of_more : (text : List ℕ) (i : ℕ) → i < length text → number_of (take (i + 1) text) ≡ 10 * number_of (take i text) + (get_or text i 0 - 48)
number_of_more text i h = fold_more (λ n d. 10 * n + (d - 48)) 0 text i 0 h

pub power_of_ten_le : (i j : ℕ) → i ≤ j → 10 ^ i ≤ 10 ^ j
power_of_ten_le i j h = pow-le-pow_right (omega arith) h

pub power_of_ten_more : (i : ℕ) → 10 ^ (i + 1) ≡ 10 * 10 ^ i
power_of_ten_more i = omega (arith, pow_more 10 i)

pub digit_bounds : (b : ℕ) → is_digit b ≡ true → (48 ≤ b) × (b ≤ 57)
digit_bounds b h = grind (arith, nat_tests)

pub digit_from_bounds : (b : ℕ) → b < 10 → is_digit (48 + b) ≡ true
digit_from_bounds b h = grind (arith, nat_tests)

-- a number of so many digits is below that power of ten
pub number_of_take_lt : (text : List ℕ) (i : ℕ) → i ≤ length text → list_all is_digit (take i text) ≡ true → number_of (take i text) < 10 ^ i
number_of_take_lt text zero h all = omega arith
number_of_take_lt text (suc i) h all =
    let e : suc i ≡ i + 1 = omega arith in
    let parts : (list_all is_digit (take i text) ≡ true) × (is_digit (get_or text i 0) ≡ true) = and_parts _ _ (sym (list_all_more is_digit text i 0 (omega arith)) ∙ rw e at all) in
    rw e (omega (arith, number_of_take_lt text i (omega arith) parts.0, digit_bounds (get_or text i 0) parts.1, number_of_more text i (omega arith), power_of_ten_more i))

pub number_of_lt : (text : List ℕ) → list_all is_digit text ≡ true → number_of text < 10 ^ length text
number_of_lt text all =
    let whole = take-length text in
    rw whole at (number_of_take_lt text (length text) (omega arith) (rw whole all))

pub padded-zero : (n : ℕ) → padded 0 n ≡ []
unfolding padded
padded-zero n = refl

-- the last digit, with those before it
pub padded_more : (i n : ℕ) → padded (i + 1) n ≡ padded i (n / 10) ++ (48 + n % 10) ∷ []
unfolding padded
padded_more i n = let e : i + 1 ≡ suc i = omega arith in rw e refl

pub length-padded : (i n : ℕ) → length (padded i n) ≡ i
length-padded zero n = rw (padded-zero n) refl
length-padded (suc i) n =
    let e : suc i ≡ i + 1 = omega arith in
    rw (e, padded_more i n, length-append (padded i (n / 10)) ((48 + n % 10) ∷ [])) (omega (arith, length-padded i (n / 10)))

-- the digit before those that are written
pub padded_step : (i n : ℕ) (text : List ℕ) → 1 ≤ i → i ≤ length text → padded (i - 1) (n / 10) ++ drop (i - 1) (set text (i - 1) (48 + n % 10)) ≡ padded i n ++ drop i text
padded_step zero n text low high = absurd (omega arith)
padded_step (suc i) n text low high =
    let back : suc i - 1 ≡ i = omega arith in
    let next : suc i ≡ i + 1 = omega arith in
    let written : drop i (set text i (48 + n % 10)) ≡ (48 + n % 10) ∷ drop (i + 1) text = drop-set text i (48 + n % 10) (omega arith) in
    rw (back, next, padded_more i n, written) (sym (append_assoc (padded i (n / 10)) ((48 + n % 10) ∷ []) (drop (i + 1) text)))

-- no digit is still to be written
pub padded_done : (i n : ℕ) (text : List ℕ) → i ≤ 0 → padded i n ++ drop i text ≡ text
padded_done zero n text h = rw (padded-zero n) refl
padded_done (suc i) n text h = absurd (omega arith)

pub padded_as : (part : List ℕ) (i n width number : ℕ) → part ≡ padded i n → i ≡ width → n ≡ number → part ≡ padded width number
padded_as part i n width number e f g = cc

pub number_of-push : (text : List ℕ) (d : ℕ) → number_of (text ++ (48 + d) ∷ []) ≡ 10 * number_of text + d
number_of-push text d =
    let less : 48 + d - 48 ≡ d = omega arith in
    fold-append (λ n b. 10 * n + (b - 48)) 0 text ((48 + d) ∷ []) ∙ rw less refl

pub list_all-padded : (i n : ℕ) → list_all is_digit (padded i n) ≡ true
list_all-padded zero n = rw (padded-zero n) refl
list_all-padded (suc i) n =
    let e : suc i ≡ i + 1 = omega arith in
    rw (e, padded_more i n, list_all-append is_digit (padded i (n / 10)) ((48 + n % 10) ∷ []), list_all-padded i (n / 10), digit_from_bounds (n % 10) (omega arith)) refl

-- the digits of a number spell it
pub number_of-padded : (i n : ℕ) → n < 10 ^ i → number_of (padded i n) ≡ n
number_of-padded zero n h = rw (padded-zero n) (omega arith)
number_of-padded (suc i) n h =
    let e : suc i ≡ i + 1 = omega arith in
    let bound : n < 10 * 10 ^ i = omega (arith, rw e at h, power_of_ten_more i) in
    rw (e, padded_more i n, number_of-push (padded i (n / 10)) (n % 10), number_of-padded i (n / 10) (omega arith)) (omega arith)

-- a digit after the number so far is the last digit of the number
last_digit : (m d : ℕ) → 48 ≤ d → d ≤ 57 → ((10 * m + (d - 48)) / 10 ≡ m) × (48 + (10 * m + (d - 48)) % 10 ≡ d)
last_digit m d low high = (omega arith, omega arith)

padded-number_of_take : (text : List ℕ) (i : ℕ) → i ≤ length text → list_all is_digit (take i text) ≡ true → padded i (number_of (take i text)) ≡ take i text
padded-number_of_take text zero h all = padded-zero (number_of (take 0 text))
padded-number_of_take text (suc i) h all =
    let e : suc i ≡ i + 1 = omega arith in
    let parts : (list_all is_digit (take i text) ≡ true) × (is_digit (get_or text i 0) ≡ true) = and_parts _ _ (sym (list_all_more is_digit text i 0 (omega arith)) ∙ rw e at all) in
    let bounds = digit_bounds (get_or text i 0) parts.1 in
    let digit = last_digit (number_of (take i text)) (get_or text i 0) bounds.0 bounds.1 in
    rw (e, number_of_more text i (omega arith), padded_more i (10 * number_of (take i text) + (get_or text i 0 - 48)), digit.0, digit.1, padded-number_of_take text i (omega arith) parts.0) (sym (take_more text i 0 (omega arith)))

-- digits are those of the number that they spell
pub padded-number_of : (text : List ℕ) (i : ℕ) → length text ≡ i → list_all is_digit text ≡ true → padded i (number_of text) ≡ text
padded-number_of text i e all =
    let whole = take_all i text (omega arith) in
    rw whole at (padded-number_of_take text i (omega arith) (rw whole all))
