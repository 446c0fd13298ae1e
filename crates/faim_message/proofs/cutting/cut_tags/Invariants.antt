use Rattle.std.proofs.Common.{◌-◌, length}
use Rattle.faim_message.specs.declared.form.Form.{Form}
use Rattle.faim_message.specs.Refusal.{EndsWhole}
use Rattle.faim_message.specs.Cutting.{Rest}
use Rattle.faim_message.proofs.cutting.cut_tags.Given as goal

abbrev pub invariant-loop-place : goal.invariant-loop-place
invariant-loop-place l = (form : Form) (end : EndsWhole form l.bytes) → Rest end.breaks end.tags l.tags.items l.bytes l.place

abbrev pub decreases-loop-place : goal.decreases-loop-place
decreases-loop-place l = length l.bytes - l.place
