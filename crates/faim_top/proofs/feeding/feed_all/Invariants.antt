use Rattle.std.proofs.Common.{◌≡◌, ◌+◌, ◌-◌, ◌≤◌, length}
use Rattle.faim_base.specs.Limits.{longest_message}
use Rattle.faim_top.specs.Seen.{seen}
use Rattle.faim_top.specs.Sources.{FedAll}
use Rattle.faim_top.proofs.feeding.feed_all.Given as goal

-- all bytes so far were taken and fed, they are no more than a message has, and no read has failed
abbrev pub invariant-loop-n : goal.invariant-loop-n
invariant-loop-n g l = record {
  all : FedAll l.taken (seen g.I.Source.left l.fn.input l.input) l.decoder;
  short : l.taken ≤ longest_message;
  kept : g.I.Source.read_faults l.input ≡ g.I.Source.read_faults l.fn.input;
  size : length l.buf ≡ 4_096;
}

abbrev pub decreases-loop-n : goal.decreases-loop-n
decreases-loop-n g l = longest_message + 1 - l.taken
