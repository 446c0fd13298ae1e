use Rattle.std.proofs.Common.{arith}
use Rattle.framed_input.proofs.Settling.{feeds_on, feeds_fault}
use Rattle.framed_input.proofs.feeding.feed.Goals as goal

pub returns-in-Ok : goal.returns-in-Ok
returns-in-Ok c = feeds_on c.args.splitter.now c.args.piece.now c.feed.new.self c.in-Ok.count c.in-Ok.ensures.taken.0 c.in-Ok.ensures.taken.1 c.in-Ok.ensures.front c.in-Ok.ensures.fault

pub returns-in-Err : goal.returns-in-Err
returns-in-Err c =
    feeds_fault c.args.splitter.now c.args.piece.now c.feed.new.self c.min.result c.in-Err.fault c.in-Err.ensures.fault c.requires.clean c.in-Err.ensures.shown
    (c.in-Err.ensures.kept c.requires.clean)
    (omega (arith, c.min.ensures, c.saturating_sub.ensures, c.requires.counted))
