use Rattle.std.proofs.Common.{◌≡◌, ◌≤◌, ◌-◌, ◌++◌, List, ℕ, length, take}
use Rattle.faim_message.specs.declared.form.Form.{Form}
use Rattle.faim_message.specs.Partial.{form_of, HasRead}
use Rattle.faim_message.proofs.partial.MessagePart.read_piece.Given as goal

abbrev pub invariant-loop-count : goal.invariant-loop-count
invariant-loop-count l = record {
  form_is : form_of l.self ≡ form_of l.initial.self;
  within : l.count ≤ length l.piece;
  read : (form : Form) (bytes : List ℕ) → HasRead l.initial.self form bytes → HasRead l.self form (bytes ++ take l.count l.piece);
}

abbrev pub decreases-loop-count : goal.decreases-loop-count
decreases-loop-count l = length l.piece - l.count
