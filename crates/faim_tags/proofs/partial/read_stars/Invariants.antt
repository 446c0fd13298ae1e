use Rattle.std.proofs.Common.{ℕ, List, ◌≤◌, ◌-◌, length}
use Rattle.faim_tags.specs.Steps.{Progress}
use Rattle.faim_tags.specs.Partial.{StandsFor, Reads}
use Rattle.faim_tags.specs.declared.partial.TagPart.TheVariants.{Elements}
use Rattle.faim_tags.proofs.partial.read_stars.Given as goal

abbrev pub invariant-loop-stars : goal.invariant-loop-stars
invariant-loop-stars l = record {
  within : l.place ≤ length l.bytes;
  read : (ns : List ℕ) (p : Progress) → StandsFor ns (Elements l.no l.fixed l.fn.stars l.fn.part) p → Reads ns p l.bytes l.place (Elements l.no l.fixed l.stars l.part);
}

abbrev pub decreases-loop-stars : goal.decreases-loop-stars
decreases-loop-stars l = length l.most - l.stars
