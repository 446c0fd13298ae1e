use Rattle.std.proofs.Common.{length, drop, refl}
use Rattle.site_core.specs.Log.{reads}
use Rattle.site_core.specs.Told.{Told, IsRead}
use Rattle.site_core.proofs.Runs.{goes_as, goes_knowing}
use Rattle.torn_journal.proofs.Questions.{one_look, read_front, holds_by}
use Rattle.torn_journal.proofs.reading.fill.Goals as goal

pub returns-clause-told : goal.returns-clause-told
returns-clause-told g c =
    goes_as _ _ (g.S.Site.told c.args.site.now) (g.S.Site.told c.read_at.new.self)
    (λ x y p.
    let f = read_front (reads x.log) c.args.at c.in_ok-found.found (length c.read_at.new.buf) c.read_at.new.buf refl p.0 in
    (one_look c.in_ok-found.found x y p.1, holds_by (drop c.args.at (reads x.log)) c.read_at.new.buf c.in_ok-found.found (length c.read_at.new.buf) refl f.0 f.1))
    (goes_knowing (λ (site : Told). IsRead (reads site.log) c.args.at c.in_ok-found.found c.read_at.new.buf) _ _ _ c.in_ok-found.ensures.value c.in_ok-found.ensures.told)
