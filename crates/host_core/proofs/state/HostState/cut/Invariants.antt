use Rattle.std.proofs.Common.{◌≡◌, ◌-◌, drop, length}
use Rattle.host_core.proofs.state.HostState.cut.Given as goal

-- the entries that stay are among those that are left
abbrev pub invariant-loop-self : goal.invariant-loop-self
invariant-loop-self l = record {
  config : l.self.config ≡ l.fn.self.config;
  stay : drop (length l.self.entries - l.len) l.self.entries ≡ drop (length l.fn.self.entries - l.len) l.fn.self.entries;
}

abbrev pub decreases-loop-self : goal.decreases-loop-self
decreases-loop-self l = length l.self.entries
