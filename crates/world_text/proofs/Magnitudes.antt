-- Numbers of at most twelve digits.
use Rattle.std.proofs.Common.{◌≡◌, ℕ, ◌^◌, ◌<◌, ◌≤◌, true, List, [], ◌∷◌, length, Some, refl, arith}
use Rattle.std.proofs.lemmas.Bool.Decides.{nat_tests}
use Rattle.std.specs.List.{list_all}
use Rattle.faim_base.specs.Numbers.{greatest_amount}
use Rattle.faim_base.specs.Digits.{number_of}
use Rattle.faim_base.specs.Text.{is_digit}
use Rattle.faim_base.proofs.DigitLemmas.{number_of_lt, power_of_ten_le}
use Rattle.faim_base.proofs.ReadLemmas.{chosen_some}
use Rattle.world_text.specs.Fields.{is_plain_number, magnitude_word}

pub plain_is_short : (word : List ℕ) → is_plain_number word ≡ true → length word ≤ 12
plain_is_short [] plain = omega arith
plain_is_short (d ∷ []) plain = omega arith
plain_is_short (d ∷ e ∷ rest) plain = grind (arith, nat_tests)

plain_is_digits : (word : List ℕ) → is_plain_number word ≡ true → list_all is_digit word ≡ true
plain_is_digits [] plain = refl
plain_is_digits (d ∷ []) plain = grind (arith, nat_tests)
plain_is_digits (d ∷ e ∷ rest) plain = grind (arith, nat_tests)

pub magnitude_fits : (word : List ℕ) (n : ℕ) → magnitude_word word ≡ Some n → n ≤ greatest_amount
magnitude_fits word n is =
    let found = chosen_some (is_plain_number word) (Some (number_of word)) n is in
    let same : number_of word ≡ n = let e = found.1 in cc in
    let small : number_of word < 10 ^ length word = number_of_lt word (plain_is_digits word found.0) in
    let power : 10 ^ length word ≤ 10 ^ 12 = power_of_ten_le (length word) 12 (plain_is_short word found.0) in
    omega (arith, same, small, power)
