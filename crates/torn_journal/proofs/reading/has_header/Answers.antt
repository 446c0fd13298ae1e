use Rattle.std.proofs.Common.{arith}
use Rattle.site_core.specs.Log.{reads}
use Rattle.site_core.specs.Told.{Told, IsRead}
use Rattle.site_core.proofs.Runs.{goes_as, goes_knowing}
use Rattle.torn_journal.proofs.Questions.{one_look, header_there}
use Rattle.torn_journal.proofs.reading.has_header.Goals as goal

pub returns-clause-told : goal.returns-clause-told
returns-clause-told g c =
    goes_as _ _ (g.S.Site.told c.args.site.now) (g.S.Site.told c.read_at.new.self)
    (λ x y p. (one_look c.in_ok-count.count x y p.1, header_there (reads x.log) c.read_at.new.buf c.in_ok-count.count (omega arith) p.0 c.is_header.result c.is_header.ensures))
    (goes_knowing (λ (site : Told). IsRead (reads site.log) 0 c.in_ok-count.count c.read_at.new.buf) _ _ _ c.in_ok-count.ensures.value c.in_ok-count.ensures.told)
