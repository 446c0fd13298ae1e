use Rattle.std.proofs.Common.{◌≡◌, ◌≤◌, ◌++◌, length, drop}
use Rattle.faim_base.specs.Digits.{padded}
use Rattle.faim_base.proofs.numerals.padded.Given as goal

-- the digits from i on are written, and those of `left` go before them
abbrev pub invariant-loop-i : goal.invariant-loop-i
invariant-loop-i l = record {
  within : l.i ≤ length l.text;
  same_length : length l.text ≡ length l.initial.text;
  digits : padded l.i l.left ++ drop l.i l.text ≡ padded (length l.initial.text) l.n;
}
