use Rattle.std.proofs.Common.{length}
use Rattle.journaled_list.specs.Reading.{IsWithin}
use Rattle.journaled_list.proofs.grouping.add_group.Given as goal

abbrev pub invariant-loop-rest : goal.invariant-loop-rest
invariant-loop-rest g l = IsWithin g.L.Journaled.rules (g.L.Journaled.list l.fn.list) (g.L.Journaled.list l.list) l.payload l.rest l.count

abbrev pub decreases-loop-rest : goal.decreases-loop-rest
decreases-loop-rest g l = length l.rest
