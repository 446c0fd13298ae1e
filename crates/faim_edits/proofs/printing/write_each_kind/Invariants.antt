use Rattle.std.proofs.Common.{◌≡◌, ◌∷◌, ◌++◌, take}
use Rattle.std.specs.List.{flat_map}
use Rattle.faim_base.specs.Digits.{padded}
use Rattle.faim_edits.proofs.printing.write_each_kind.Given as goal

abbrev pub invariant-loop-kind : goal.invariant-loop-kind
invariant-loop-kind l = l.out.items ≡ l.fn.out.items ++ flat_map (λ k. 32 ∷ padded 4 k) (take l.kind-index l.kinds)
