use Rattle.std.proofs.Common.{◌≡◌, ◌+◌, ◌*◌, ◌^◌, ◌<◌, ◌≤◌, length, drop}
use Rattle.faim_tags.specs.Layouts.{each_class}
use Rattle.faim_tags.specs.Parts.{run_length}
use Rattle.faim_tags.proofs.classes.run_from.Given as goal

abbrev pub invariant-loop-class : goal.invariant-loop-class
invariant-loop-class l = record {
  within : l.count ≤ length l.bytes;
  on : l.count + run_length (drop l.skipped (each_class (drop l.class-index l.elements))) (drop l.count l.bytes) ≡ run_length (drop l.fixed (each_class l.elements)) l.bytes;
  left : l.count + length (drop l.skipped (each_class (drop l.class-index l.elements))) ≡ length (drop l.fixed (each_class l.elements));
  near : l.fixed ≤ l.skipped + 255 * l.class-index;
  room : l.fixed + l.count < 2 ^ 64;
}
