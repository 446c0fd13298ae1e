use Rattle.site_core.proofs.Runs.{goes_as}
use Rattle.journaled_list.proofs.Made.{made}
use Rattle.journaled_list.proofs.making.init.Goals as goal

pub returns-in-Ok-clause-told : goal.returns-in-Ok-clause-told
returns-in-Ok-clause-told g c =
    goes_as _ _ (g.S.Site.told c.args.site.now) (g.S.Site.told c.create.new.site)
    (λ x y p. made g.L.Journaled.rules c.args.opening.now (g.L.Journaled.list c.args.list) c.in-Ok.journal c.requires.opening c.requires.spelled c.requires.empty x y p)
    c.in-Ok.ensures.told
