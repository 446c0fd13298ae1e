use Rattle.std.proofs.Common.{◌≡◌, ◌+◌, ◌-◌, drop}
use Rattle.faim_tags.specs.Parts.{text_length}
use Rattle.faim_tags.proofs.classes.text_one_by_one.Given as goal

abbrev pub invariant-loop-b : goal.invariant-loop-b
invariant-loop-b l = record {
  counted : l.count ≡ l.b-index;
  on : l.count + text_length (l.most - l.b-index) (drop l.b-index l.bytes) ≡ text_length l.most l.bytes;
}
