use Rattle.std.proofs.Common.{◌++◌, length, length-append, ap, arith}
use Rattle.std.proofs.lemmas.List.{length-take}
use Rattle.std.proofs.KnownBytes.{Consumes-trans}
use Rattle.faim_top.proofs.streams.read_up_to.Goals as goal

pub returns-in-Err-clause-few : goal.returns-in-Err-clause-few
returns-in-Err-clause-few g c =
    let last = c.in-Err.ensures.few in
    record {
      piece = c.loop-buf.all ++ last.piece;
      taken = Consumes-trans (g.I.Source.left c.args.input.now) (g.I.Source.left c.loop-buf.input) (g.I.Source.left c.read_piece.new.input) c.loop-buf.all last.piece c.loop-buf.invariant.taken last.taken;
      within = omega (arith, length-append c.loop-buf.all last.piece, last.within, c.loop-buf-test.true, ap length c.as_slice.ensures, ap length c.as_slice-in-loop-buf.ensures, c.min-room.ensures, length-take c.min-room.result c.loop-buf.buf);
    }
