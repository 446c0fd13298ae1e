use Rattle.std.proofs.Common.{◌≡◌, ◌++◌, List, ℕ, [], None, refl, sym, subst, arith}
use Rattle.framed_input.specs.Feeding.{Settled}
use Rattle.framed_input.specs.Standing.{KeepsLimit}
use Rattle.framed_input.proofs.reader.FrameReader.new.Goals as goal

nothing_fed : (fed : List ℕ) → fed ≡ [] → Settled fed [] 0 None × KeepsLimit (record { held = fed ++ []; taken = 0 })
nothing_fed fed empty =
    let P : List ℕ → Type 0 = λ l. Settled l [] 0 None × KeepsLimit (record { held = l ++ []; taken = 0 }) in
    subst P (sym empty) (
      record { counted = refl; few = omega arith; shown = refl; same = refl; front = λ none. refl },
      record { most = omega arith; none = λ beyond. refl },
    )

pub invariant_of-result : goal.invariant_of-result
invariant_of-result c =
    let h = nothing_fed c.in_ok-new.field-0 c.in_ok-new.ensures in
    (c.in_ok-vec.ensures.len, omega arith, omega arith, h.0, h.1)
