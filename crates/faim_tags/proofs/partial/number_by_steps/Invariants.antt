use Rattle.std.proofs.Common.{◌≤◌, ◌-◌, length}
use Rattle.faim_tags.specs.Steps.{Progress}
use Rattle.faim_tags.specs.Partial.{StandsFor, Reads}
use Rattle.faim_tags.specs.declared.partial.TagPart.TheVariants.{Number}
use Rattle.faim_tags.proofs.partial.number_by_steps.Given as goal

abbrev pub invariant-loop-place : goal.invariant-loop-place
invariant-loop-place l = record {
  within : l.place ≤ length l.bytes;
  read : (p : Progress) → StandsFor l.numbers (Number l.fn.like l.fn.count) p → Reads l.numbers p l.bytes l.place l.reached;
}

abbrev pub decreases-loop-place : goal.decreases-loop-place
decreases-loop-place l = length l.bytes - l.place
