use Rattle.std.proofs.Common.{◌≡◌, ◌++◌, length, take, drop}
use Rattle.faim_tags.specs.Spelling.{starred}
use Rattle.faim_tags.proofs.writing.append_stars.Given as goal

abbrev pub invariant-loop-k : goal.invariant-loop-k
invariant-loop-k l = record {
  on : l.out.items ++ starred (drop l.k l.stars) l.closed ≡ l.initial.out.items ++ starred l.stars l.closed;
  kept : take (length l.initial.out.items) l.out.items ≡ l.initial.out.items;
}
