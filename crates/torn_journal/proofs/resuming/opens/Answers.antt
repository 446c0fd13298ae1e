use Rattle.site_core.proofs.Runs.{goes_as, goes_on}
use Rattle.torn_journal.proofs.RecordsRead.{not_synced, then_asked}
use Rattle.torn_journal.proofs.resuming.opens.Goals as goal

pub returns-in_err-sync-clause-told : goal.returns-in_err-sync-clause-told
returns-in_err-sync-clause-told g c =
    goes_as _ _ (g.S.Site.told c.args.site.now) (g.S.Site.told c.sync.new.self) (λ x y p. not_synced c.in_err-sync.field-0.0 c.from_residual.result c.from_residual.ensures.0 x y p) c.in_err-sync.ensures.told

pub returns-clause-told : goal.returns-clause-told
returns-clause-told g c = goes_on _ _ _ _ _ _ (λ x y z p q. then_asked c.in_ok-sync.field-0 c.has_header.result x y z p q) c.in_ok-sync.ensures.told c.has_header.ensures.told
