use Rattle.std.proofs.Common.{◌≡◌, ◌++◌, take, drop}
use Rattle.std.specs.Prelude.{◌==◌}
use Rattle.world_text.specs.Lines.{until, after}
use Rattle.world_text.proofs.lines.split_at_byte.Given as goal

-- none of the bytes so far is the one
abbrev pub invariant-loop-i : goal.invariant-loop-i
invariant-loop-i l = record {
  front : until (λ b. b == l.byte) l.text ≡ take l.i l.text ++ until (λ b. b == l.byte) (drop l.i l.text);
  rest : after (λ b. b == l.byte) l.text ≡ after (λ b. b == l.byte) (drop l.i l.text);
}
