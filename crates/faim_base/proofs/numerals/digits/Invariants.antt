use Rattle.std.proofs.Common.{◌≡◌, ◌^◌, ◌<◌, take, true}
use Rattle.std.specs.List.{list_all}
use Rattle.faim_base.specs.Text.{is_digit}
use Rattle.faim_base.specs.Digits.{number_of}
use Rattle.faim_base.proofs.numerals.digits.Given as goal

-- the bytes so far are digits, and spell the number so far
abbrev pub invariant-loop-b : goal.invariant-loop-b
invariant-loop-b l = record {
  digits : list_all is_digit (take l.b-index l.text) ≡ true;
  value : l.n ≡ number_of (take l.b-index l.text);
  bound : l.n < 10 ^ l.b-index;
}
