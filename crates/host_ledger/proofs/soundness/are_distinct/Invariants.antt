use Rattle.std.proofs.Common.{◌↔◌, length}
use Rattle.std.specs.Prelude.{bytes_eq}
use Rattle.std.specs.List.{IsDistinct}
use Rattle.host_ledger.specs.Soundness.{numbers_of}
use Rattle.host_ledger.proofs.soundness.are_distinct.Given as goal

-- the numbers are distinct where those that are left are
abbrev pub invariant-loop-account : goal.invariant-loop-account
invariant-loop-account l = IsDistinct bytes_eq (numbers_of l.left) ↔ IsDistinct bytes_eq (numbers_of l.accounts)

abbrev pub decreases-loop-account : goal.decreases-loop-account
decreases-loop-account l = length l.left
