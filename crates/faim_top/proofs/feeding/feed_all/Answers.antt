use Rattle.std.proofs.Common.{◌+◌, take, drop, length, length-append, length-drop, ◌∙◌, arith}
use Rattle.std.proofs.lemmas.List.{length-take}
use Rattle.faim_top.specs.Seen.{seen}
use Rattle.faim_top.specs.Sources.{FedAll}
use Rattle.faim_top.proofs.FedLemmas.{fed_on, going_short, refused_on, takes_few, takes_little}
use Rattle.faim_top.proofs.feeding.feed_all.Goals as goal

pub feed_piece-requires : goal.feed_piece-requires
feed_piece-requires g c = omega (arith, c.min-room.ensures, length-take c.min-room.result c.loop-n.buf, c.loop-n.invariant.short, c.loop-n.invariant.size)

pub returns-in-Ok-eq0-clause-few : goal.returns-in-Ok-eq0-clause-few
returns-in-Ok-eq0-clause-few g c =
    takes_few c.loop-n.taken (length (take c.min-room.result c.loop-n.buf)) 4_235 _ _ _ c.loop-n.decoder
    (omega (arith, c.min-room.ensures, length-take c.min-room.result c.loop-n.buf, c.loop-n.invariant.short))
    c.loop-n.invariant.all c.feed_piece.ensures.few

pub loop-n-preserved : goal.loop-n-preserved
loop-n-preserved g c =
    let all : FedAll (c.loop-n.taken + c.in-Ok.n) (seen g.I.Source.left c.args.input.now c.feed_piece.new.input) c.feed_piece.new.decoder =
    fed_on c.loop-n.taken c.in-Ok.n _ _ _ c.loop-n.decoder c.feed_piece.new.decoder c.feed_piece.ensures.form c.loop-n.invariant.all c.in-Ok.ensures.fed in
    record {
      all = all;
      short = going_short c.each_input_is_judged.ensures c.spellings_are_short.ensures (c.loop-n.taken + c.in-Ok.n) _ c.feed_piece.new.decoder all;
      kept = c.feed_piece.ensures.faults.kept (λ failed. absurd (cc (failed, c.in-Ok.is))) ∙ c.loop-n.invariant.kept;
      size = omega (arith, length-append c.feed_piece.new.buf (drop c.min-room.result c.loop-n.buf), length-drop c.min-room.result c.loop-n.buf, length-take c.min-room.result c.loop-n.buf, c.min-room.ensures, c.loop-n.invariant.size, c.feed_piece.auto.buf);
    }

pub returns-in-Err-clause-refused : goal.returns-in-Err-clause-refused
returns-in-Err-clause-refused g c = λ why is.
    let r = c.in-Err.ensures.refused why is in
    refused_on c.a_stop_stays.ensures.stays c.loop-n.taken r.0 _ _ _ c.loop-n.decoder c.feed_piece.new.decoder why c.loop-n.invariant.all r.1

pub returns-in-Err-clause-few : goal.returns-in-Err-clause-few
returns-in-Err-clause-few g c =
    takes_few c.loop-n.taken (length (take c.min-room.result c.loop-n.buf)) 4_235 _ _ _ c.loop-n.decoder
    (omega (arith, c.min-room.ensures, length-take c.min-room.result c.loop-n.buf, c.loop-n.invariant.short))
    c.loop-n.invariant.all c.feed_piece.ensures.few

pub returns-in-Ok-eq0-clause-beyond : goal.returns-in-Ok-eq0-clause-beyond
returns-in-Ok-eq0-clause-beyond g c =
    takes_little c.a_stop_stays.ensures.front c.loop-n.taken (length (take c.min-room.result c.loop-n.buf)) _ _ _ c.loop-n.decoder
    (omega (arith, c.min-room.ensures, length-take c.min-room.result c.loop-n.buf))
    c.loop-n.invariant.all c.feed_piece.ensures.few

pub returns-in-Err-clause-beyond : goal.returns-in-Err-clause-beyond
returns-in-Err-clause-beyond g c =
    takes_little c.a_stop_stays.ensures.front c.loop-n.taken (length (take c.min-room.result c.loop-n.buf)) _ _ _ c.loop-n.decoder
    (omega (arith, c.min-room.ensures, length-take c.min-room.result c.loop-n.buf))
    c.loop-n.invariant.all c.feed_piece.ensures.few
