use Rattle.std.proofs.Common.{◌≡◌, ◌++◌, ◌≤◌, true, length, drop}
use Rattle.faim_tags.specs.Spelling.{starred}
use Rattle.faim_tags.specs.Parts.{closed_stars}
use Rattle.faim_tags.proofs.cutting.cut_stars.Given as goal

abbrev pub invariant-loop-most : goal.invariant-loop-most
invariant-loop-most l = record {
  within : l.place ≤ length l.bytes;
  taken : l.place ≡ length (starred l.stars true);
  each : length l.stars ≡ l.most-index;
  on : l.stars ++ closed_stars (drop l.most-index l.maxima) (drop l.place l.bytes) ≡ closed_stars l.maxima l.bytes;
}
