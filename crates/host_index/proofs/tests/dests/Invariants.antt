use Rattle.std.proofs.Common.{◌≡◌, map, take}
use Rattle.host_index.proofs.tests.dests.Given as goal

abbrev pub invariant-loop-end : goal.invariant-loop-end
invariant-loop-end l = l.dests.items ≡ map (λ end. end.0) (take l.end-index l.ends)
