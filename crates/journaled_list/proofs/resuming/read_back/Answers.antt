use Rattle.std.proofs.Common.{refl, Some}
use Rattle.site_core.proofs.Runs.{goes_as, goes_knowing}
use Rattle.journaled_list.specs.Loading.{Finds, found_in}
use Rattle.journaled_list.specs.Resuming.{none_again}
use Rattle.journaled_list.proofs.ReadThenSent.{finds_known, read_all, looked_all}
use Rattle.journaled_list.proofs.resuming.read_back.Goals as goal

pub returns-in-Ok-clause-moments : goal.returns-in-Ok-clause-moments
returns-in-Ok-clause-moments g c =
    let rules = g.L.Journaled.rules in
    let loaded = found_in g.L.Journaled.list c.in-Ok.kept in
    goes_as _ _ (g.S.Site.told c.args.site.now) (g.S.Site.told c.load-loaded.new.site)
    (λ x y p. read_all rules (g.met.L.Journaled.read_once) (found_in g.L.Journaled.list) none_again loaded x y y p.0 p.1 (λ list last. refl) c.in-Ok.kept refl)
    (goes_knowing (λ x. Finds rules (Some x) loaded) _ _ _ (finds_known rules loaded (g.S.Site.told c.args.site.now) c.in-Ok.ensures.says) c.in-Ok.ensures.told)

pub returns-in-Err-clause-moments : goal.returns-in-Err-clause-moments
returns-in-Err-clause-moments g c =
    goes_as _ _ (g.S.Site.told c.args.site.now) (g.S.Site.told c.load-loaded.new.site)
    (λ x y p. looked_all g.L.Journaled.rules (found_in g.L.Journaled.list) none_again c.in-Err.fault _ x y p)
    c.in-Err.ensures.told
