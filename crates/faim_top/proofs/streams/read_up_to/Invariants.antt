use Rattle.std.proofs.Common.{◌≡◌, ◌-◌, ◌≤◌, length}
use Rattle.std.specs.Io.KnownBytes.{Consumes}
use Rattle.faim_top.proofs.streams.read_up_to.Given as goal

-- the bytes so far are those that the source no longer has, and no read has failed
abbrev pub invariant-loop-buf : goal.invariant-loop-buf
invariant-loop-buf g l = record {
  taken : Consumes (g.I.Source.left l.fn.input) (g.I.Source.left l.input) l.all;
  within : length l.all ≤ l.most;
  kept : g.I.Source.read_faults l.input ≡ g.I.Source.read_faults l.fn.input;
  size : length l.buf ≡ 4_096;
}

abbrev pub decreases-loop-buf : goal.decreases-loop-buf
decreases-loop-buf g l = l.most - length l.all
