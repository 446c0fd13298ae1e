use Rattle.std.proofs.Common.{◌≡◌, ◌⊎◌, ℕ, ◌+◌, ◌<◌, ◌≤◌, min, get_or}
use Rattle.std.specs.Prelude.{Contains}
use Rattle.site_core.proofs.memory_source.read_end.Given as goal

-- the nearest cut among those seen
abbrev pub invariant-loop-cut : goal.invariant-loop-cut
invariant-loop-cut l = record {
  onward : l.at ≤ l.end;
  within : l.end ≤ l.limit;
  some : min (l.at + 1) l.limit ≤ l.end;
  apart : (k : ℕ) → k < l.cut-index → (get_or l.cuts k 0 ≤ l.at) ⊎ (l.end ≤ get_or l.cuts k 0);
  reason : (l.end ≡ l.limit) ⊎ Contains l.cuts l.end;
}
