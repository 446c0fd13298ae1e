use Rattle.std.proofs.Common.{drop, arith}
use Rattle.site_core.specs.Log.{reads}
use Rattle.site_core.specs.Told.{Told, IsRead}
use Rattle.site_core.proofs.Runs.{goes_as, goes_knowing}
use Rattle.torn_journal.proofs.Questions.{one_look, read_front}
use Rattle.torn_journal.proofs.reading.head_at.Goals as goal

pub returns-clause-told : goal.returns-clause-told
returns-clause-told g c =
    goes_as _ _ (g.S.Site.told c.args.site.now) (g.S.Site.told c.read_at.new.self)
    (λ x y p.
    let f = read_front (reads x.log) c.args.place c.in_ok-count.count 5 c.read_at.new.buf (omega arith) p.0 in
    (one_look c.in_ok-count.count x y p.1, c.judged.ensures.head (drop c.args.place (reads x.log)) f.0 f.1))
    (goes_knowing (λ (site : Told). IsRead (reads site.log) c.args.place c.in_ok-count.count c.read_at.new.buf) _ _ _ c.in_ok-count.ensures.value c.in_ok-count.ensures.told)
