use Rattle.std.proofs.Common.{◌≡◌, List, ℕ, true, subst, Err, rules}
use Rattle.site_core.proofs.Runs.{goes_as}
use Rattle.torn_journal.specs.Create.{Creates}
use Rattle.entry_codec.specs.Config.{config_bytes}
use Rattle.journaled_list.specs.Making.{Makes}
use Rattle.host_node.specs.HostList.{host_rules, listed}
use Rattle.journaled_steps.specs.Node.{found_of, node_with}
use Rattle.host_node.proofs.node.HostNode.init.Goals as goal

pub returns-in-Ok-init-clause-told : goal.returns-in-Ok-init-clause-told
returns-in-Ok-init-clause-told g c =
    let is : c.as_slice.result.now ≡ config_bytes c.args.config = search rules in
    goes_as _ _ (g.S.Site.told c.args.site.now) (g.S.Site.told c.init.new.site)
    (λ x y p. subst (λ (l : List ℕ). Makes host_rules l (found_of (node_with (listed c.in-Ok-init.kept.list.state) c.in-Ok-init.kept true)) x y) is p)
    c.in-Ok-init.ensures.told

pub returns-clause-told : goal.returns-clause-told
returns-clause-told g c =
    let is : c.as_slice.result.now ≡ config_bytes c.args.config = search rules in
    goes_as _ _ (g.S.Site.told c.args.site.now) (g.S.Site.told c.init.new.site)
    (λ x y p. subst (λ (l : List ℕ). Creates l (Err c.in-Err-init.fault) x y) is p)
    c.in-Err-init.ensures.told
