use Rattle.std.proofs.Common.{◌≡◌, ◌+◌, ◌-◌, drop, replicate}
use Rattle.faim_tags.specs.Parts.{run_length}
use Rattle.faim_tags.proofs.classes.digits_one_by_one.Given as goal

abbrev pub invariant-loop-b : goal.invariant-loop-b
invariant-loop-b l = record {
  counted : l.count ≡ l.b-index;
  on : l.count + run_length (replicate (l.most - l.b-index) 110) (drop l.b-index l.bytes) ≡ run_length (replicate l.most 110) l.bytes;
}
