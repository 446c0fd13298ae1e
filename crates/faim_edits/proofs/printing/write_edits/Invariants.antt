use Rattle.std.proofs.Common.{◌≡◌, ◌++◌, take}
use Rattle.std.specs.List.{flat_map}
use Rattle.faim_base.specs.Refusals.{refusal}
use Rattle.faim_edits.specs.Texts.{says}
use Rattle.faim_edits.specs.Printing.{edit_line}
use Rattle.faim_edits.proofs.printing.write_edits.Given as goal

abbrev pub invariant-loop-row : goal.invariant-loop-row
invariant-loop-row l = l.out.items ≡ l.fn.out.items ++ flat_map (λ r. edit_line (says (refusal r.0 r.1) r.2.now)) (take l.row-index l.rows)
