-- How many digits numbers have.
use Rattle.std.proofs.Common.{◌≡◌, ℕ, ◌<◌, ◌/◌, ◌%◌, Bool, true, false, refl, arith}
use Rattle.std.specs.Prelude.{IsTrue}
use Rattle.faim_base.specs.Digits.{padded}
use Rattle.faim_base.specs.Refusals.{is_edit_number}

-- an edit's number has three digits at most
pub edit_has_three : (n : ℕ) → IsTrue (is_edit_number n) → n < 1000
edit_has_three n is = grind arith

-- four digits tell only what a number is after its ten thousands
pub last_four : (n : ℕ) → padded 4 (n % 10_000) ≡ padded 4 n
unfolding padded
last_four n =
    let ones : n % 10_000 % 10 ≡ n % 10 = omega arith in
    let tens : n % 10_000 / 10 % 10 ≡ n / 10 % 10 = omega arith in
    let hundreds : n % 10_000 / 10 / 10 % 10 ≡ n / 10 / 10 % 10 = omega arith in
    let thousands : n % 10_000 / 10 / 10 / 10 % 10 ≡ n / 10 / 10 / 10 % 10 = omega arith in
    rw (ones, tens, hundreds, thousands) refl
