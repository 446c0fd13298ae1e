use Rattle.std.proofs.Common.{◌≡◌, ◌+◌, map, take}
use Rattle.host_ledger.specs.Sums.{cycle}
use Rattle.faim_model.specs.Outputs.{sent_in_cycle}
use Rattle.host_core.proofs.state.HostState.ends.Given as goal

-- the ends of the endpoints so far
abbrev pub invariant-loop-dest : goal.invariant-loop-dest
invariant-loop-dest l =
    l.ends.items ≡ map (λ e. (e, record { date = cycle l.self.config l.self.entries; seq = sent_in_cycle l.self.config l.self.entries e + 1 })) (take l.dest-index l.dest-items)
