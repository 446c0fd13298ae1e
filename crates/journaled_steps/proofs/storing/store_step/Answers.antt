use Rattle.std.proofs.Common.{length, sym, ap, subst, ◌∙◌, true, Result}
use Rattle.site_core.proofs.Runs.{goes_as}
use Rattle.journaled_steps.specs.declared.faults.StepFault.{StepFault}
use Rattle.journaled_steps.specs.Node.{node_with}
use Rattle.journaled_steps.specs.Steps.{HandlesAll, live_after, stores_and_sends}
use Rattle.journaled_steps.proofs.StoredSteps.{never_full, stored_moments}
use Rattle.journaled_steps.proofs.storing.store_step.Goals as goal

pub returns-clause-moments : goal.returns-clause-moments
returns-clause-moments g c = λ before x grown follows is.
    let rules = g.L.Journaled.rules in
    let stored = c.store-stored in
    goes_as _ _ (g.S.Site.told c.args.site.now) (g.S.Site.told stored.new.site)
    (λ a b all. subst
    (λ (r : Result g.row.X.Denot StepFault). HandlesAll rules r (stores_and_sends x c.args.outbox.now c.args.outcome) (node_with before c.args.kept.now true) (node_with (g.L.Journaled.list stored.new.self.list) stored.new.self (live_after r)) a b)
    (sym c.answered.ensures)
    (stored_moments rules c.args.outcome x c.args.framed.now is before (g.L.Journaled.list stored.new.self.list) (ap g.L.Journaled.list stored.ensures.list ∙ grown) follows c.args.outbox.now
    c.args.kept.now.last c.args.kept.now.journal stored.new.self.last stored.new.self.journal a b stored.result
    (never_full stored.result c.args.kept.now.journal (length c.args.framed.now) c.requires.room stored.ensures.full.1 stored.ensures.full_only)
    stored.ensures.last all))
    stored.ensures.moments
