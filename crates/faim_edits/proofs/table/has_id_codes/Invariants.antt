use Rattle.std.proofs.Common.{◌≡◌, true, take}
use Rattle.faim_message.specs.Edits.{has_id_codes}
use Rattle.faim_edits.proofs.table.has_id_codes.Given as goal

abbrev pub invariant-loop-number : goal.invariant-loop-number
invariant-loop-number l = has_id_codes (take l.number-index l.numbers) l.those l.m ≡ true
