use Rattle.std.proofs.Common.{◌≡◌, ◌≤◌, ◌-◌, length, drop}
use Rattle.std.specs.Prelude.{not}
use Rattle.std.specs.List.{find}
use Rattle.faim_tags.specs.Reading.{is_among}
use Rattle.faim_message.specs.Spelling.{numbers}
use Rattle.faim_message.proofs.allowed.behind_found.Given as goal

abbrev pub invariant-loop-count : goal.invariant-loop-count
invariant-loop-count l = record {
  within : l.count ≤ length l.wanted;
  same : find (λ n. not (is_among (numbers l.tags) n)) (drop l.count l.wanted) ≡ find (λ n. not (is_among (numbers l.tags) n)) l.wanted;
}

abbrev pub decreases-loop-count : goal.decreases-loop-count
decreases-loop-count l = length l.wanted - l.count
