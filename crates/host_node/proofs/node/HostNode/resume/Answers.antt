use Rattle.std.proofs.Common.{refl}
use Rattle.site_core.proofs.Runs.{goes_as, goes_nowhere}
use Rattle.journaled_list.specs.Loading.{found_in}
use Rattle.host_node.specs.declared.host_list.HostList.{HostList}
use Rattle.host_node.specs.HostList.{host_rules, listed, sent_again}
use Rattle.journaled_steps.specs.Node.{found_of}
use Rattle.journaled_steps.proofs.AsNodes.{resumed_as, failed_as, any_image, unopened_calls, untouched_calls, untouched_moments}
use Rattle.host_node.proofs.node.HostNode.resume.Goals as goal

pub returns-in-Err-clause-image : goal.returns-in-Err-clause-image
returns-in-Err-clause-image g c = any_image host_rules found_of sent_again (g.S.Site.told c.args.site.now)

pub returns-in-Err-clause-calls : goal.returns-in-Err-clause-calls
returns-in-Err-clause-calls g c = goes_nowhere _ (g.S.Site.told c.args.site.now) (λ x. untouched_calls host_rules found_of sent_again x)

pub returns-in-Err-clause-moments : goal.returns-in-Err-clause-moments
returns-in-Err-clause-moments g c = goes_nowhere _ (g.S.Site.told c.args.site.now) (λ x. untouched_moments host_rules found_of sent_again x)

pub returns-in-Ok-resumed-clause-moments : goal.returns-in-Ok-resumed-clause-moments
returns-in-Ok-resumed-clause-moments g c =
    goes_as _ _ (g.S.Site.told c.args.site.now) (g.S.Site.told c.resume-resumed.new.site)
    (λ x y p. resumed_as host_rules _ found_of sent_again x y c.in-Ok-resumed.kept _ refl p)
    c.in-Ok-resumed.ensures.moments

pub returns-in-Err-resumed-clause-calls : goal.returns-in-Err-resumed-clause-calls
returns-in-Err-resumed-clause-calls g c =
    goes_as _ _ (g.S.Site.told c.args.site.now) (g.S.Site.told c.resume-resumed.new.site)
    (λ x y p. unopened_calls host_rules (found_in (λ (h : HostList). listed h.state)) found_of sent_again x y c.in-Err-resumed.fault p)
    c.in-Err-resumed.ensures.calls

pub returns-in-Err-resumed-clause-moments : goal.returns-in-Err-resumed-clause-moments
returns-in-Err-resumed-clause-moments g c =
    goes_as _ _ (g.S.Site.told c.args.site.now) (g.S.Site.told c.resume-resumed.new.site)
    (λ x y p. failed_as host_rules _ found_of sent_again x y c.in-Err-resumed.fault p)
    c.in-Err-resumed.ensures.moments
