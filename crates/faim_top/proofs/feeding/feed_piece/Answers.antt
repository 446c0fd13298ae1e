use Rattle.std.proofs.Common.{◌≡◌, take, sym, subst}
use Rattle.std.specs.Prelude.{Err}
use Rattle.faim_base.specs.declared.judgement.Refused.{Refused}
use Rattle.faim_top.specs.Seen.{seen}
use Rattle.faim_top.specs.Sources.{FeedsOn}
use Rattle.faim_top.proofs.feeding.feed_piece.Goals as goal

pub returns-in-Err-feed-clause-refused : goal.returns-in-Err-feed-clause-refused
returns-in-Err-feed-clause-refused g c = λ why is.
    let same : c.in-Err-feed.why ≡ why = cc in
    let P : Refused → Type 0 = λ r. FeedsOn c.in-Ok.n (seen g.I.Source.left c.args.input.now c.read.new.self) c.args.decoder.now c.feed.new.self (Err r) in (
      c.in-Ok.n,
      subst P same (record {
        piece = take c.in-Ok.n c.read.new.buf;
        counted = sym c.in-Ok.ensures.bound.1;
        taken = c.in-Ok.ensures.bytes.0;
        fed = c.feed.ensures.fed;
        judged = c.in-Err-feed.ensures.judged;
      }),
    )
