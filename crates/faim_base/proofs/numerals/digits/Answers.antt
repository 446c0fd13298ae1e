use Rattle.std.proofs.Common.{arith}
use Rattle.faim_base.proofs.DigitLemmas.{power_of_ten_le}
use Rattle.faim_base.proofs.numerals.digits.Goals as goal

pub overflow_mul-n : goal.overflow_mul-n
overflow_mul-n c = omega (arith, power_of_ten_le c.loop-b.b-index 17 (omega arith))

pub overflow_add-n : goal.overflow_add-n
overflow_add-n c = omega (arith, power_of_ten_le c.loop-b.b-index 17 (omega arith))
