use Rattle.std.proofs.Common.{◌≡◌, drop}
use Rattle.faim_tags.specs.Steps.{numbers_begin}
use Rattle.faim_tags.proofs.number.first_with.Given as goal

abbrev pub invariant-loop-number : goal.invariant-loop-number
invariant-loop-number l = numbers_begin (drop l.number-index l.numbers) l.front ≡ numbers_begin l.numbers l.front
