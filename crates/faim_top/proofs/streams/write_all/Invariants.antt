use Rattle.std.proofs.Common.{◌≡◌, ◌-◌, ◌≤◌, length, take}
use Rattle.std.specs.Io.KnownBytes.{Appends}
use Rattle.faim_top.proofs.streams.write_all.Given as goal

-- the front part of the piece is written, and no write has failed
abbrev pub invariant-loop-done : goal.invariant-loop-done
invariant-loop-done g l = record {
  written : Appends (g.O.Sink.written l.fn.out) (g.O.Sink.written l.out) (take l.done l.piece);
  within : l.done ≤ length l.piece;
  kept : g.O.Sink.write_faults l.out ≡ g.O.Sink.write_faults l.fn.out;
}

abbrev pub decreases-loop-done : goal.decreases-loop-done
decreases-loop-done g l = length l.piece - l.done
