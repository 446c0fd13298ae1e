use Rattle.std.proofs.Common.{ℕ, ◌^◌, ◌<◌, ◌≤◌, length, Option, Some, None, sym, ◌∙◌, arith}
use Rattle.std.specs.Prelude.{IfSome}
use Rattle.faim_base.proofs.DigitLemmas.{power_of_ten_le}
use Rattle.world_text.proofs.Magnitudes.{plain_is_short}
use Rattle.world_text.proofs.fields.magnitude_in.Goals as goal

small_below : (found : Option ℕ) (bound : ℕ) → bound ≤ 10 ^ 12 → IfSome found (λ n. n < bound) → IfSome found (λ n. n ≤ 999_999_999_999)
small_below None bound le less = tt
small_below (Some n) bound le less = omega (arith, le, less)

pub returns-then-is_plain_number-clause-small : goal.returns-then-is_plain_number-clause-small
returns-then-is_plain_number-clause-small c =
    let short : length c.args.word.now ≤ 12 = plain_is_short c.args.word.now (sym c.is_plain_number.ensures ∙ c.if-is_plain_number.true) in
    let power : 10 ^ length c.args.word.now ≤ 10 ^ 12 = power_of_ten_le (length c.args.word.now) 12 short in
    small_below c.digits.result (10 ^ length c.args.word.now) power c.digits.ensures.small
