use Rattle.std.proofs.Common.{ℕ, List, take, drop, length, ap, subst, ◌∙◌, length-drop, arith}
use Rattle.std.specs.Io.KnownBytes.{Appends}
use Rattle.std.proofs.KnownBytes.{Appends-trans}
use Rattle.faim_top.proofs.Pieces.{take_on}
use Rattle.faim_top.proofs.streams.write_all.Goals as goal

pub loop-done-preserved : goal.loop-done-preserved
loop-done-preserved g c =
    let rest = c.after.ensures in
    let piece = c.args.piece.now in
    let written : Appends (g.O.Sink.written c.loop-done.out) (g.O.Sink.written c.write.new.self) (take c.in-Ok.n (drop c.loop-done.done piece)) = rw rest at c.in-Ok.ensures.bytes in
    let both = Appends-trans _ _ _ _ _ c.loop-done.invariant.written written in
    record {
      written = subst (λ (l : List ℕ). Appends (g.O.Sink.written c.args.out.now) (g.O.Sink.written c.write.new.self) l) (take_on c.loop-done.done c.in-Ok.n piece) both;
      within = omega (arith, ap length rest, length-drop c.loop-done.done piece, c.in-Ok.ensures.some.1);
      kept = c.in-Ok.ensures.cause.kept ∙ c.loop-done.invariant.kept;
    }
