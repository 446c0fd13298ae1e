use Rattle.std.proofs.Common.{Ok, Err}
use Rattle.site_core.proofs.Runs.{goes_as}
use Rattle.journaled_steps.proofs.SentSteps.{sent_moments}
use Rattle.journaled_steps.proofs.sending.send_step.Goals as goal

pub returns-in-Ok-clause-moments : goal.returns-in-Ok-clause-moments
returns-in-Ok-clause-moments g c = λ node.
    goes_as _ _ (g.S.Site.told c.args.site.now) (g.S.Site.told c.send_all.new.site)
    (λ a b all. sent_moments g.L.Journaled.rules c.args.outbox.now c.args.outcome node a b (Ok c.in-Ok.field-0) all)
    c.in-Ok.ensures.moments

pub returns-in-Err-clause-moments : goal.returns-in-Err-clause-moments
returns-in-Err-clause-moments g c = λ node.
    goes_as _ _ (g.S.Site.told c.args.site.now) (g.S.Site.told c.send_all.new.site)
    (λ a b all. sent_moments g.L.Journaled.rules c.args.outbox.now c.args.outcome node a b (Err c.in-Err.field-0) all)
    c.in-Err.ensures.moments
