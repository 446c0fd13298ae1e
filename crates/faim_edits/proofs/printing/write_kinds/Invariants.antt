use Rattle.std.proofs.Common.{◌≡◌, ◌++◌, take}
use Rattle.std.specs.List.{flat_map}
use Rattle.faim_message.specs.Edits.{permits}
use Rattle.faim_edits.specs.Printing.{kinds_line}
use Rattle.faim_edits.proofs.printing.write_kinds.Given as goal

abbrev pub invariant-loop-row : goal.invariant-loop-row
invariant-loop-row l = l.out.items ≡ l.fn.out.items ++ flat_map (λ r. kinds_line (permits r.0.now r.1.now)) (take l.row-index l.rows)
