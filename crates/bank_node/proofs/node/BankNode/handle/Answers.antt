use Rattle.std.proofs.Common.{None, Some, sym, ◌∙◌, ap}
use Rattle.site_core.proofs.Runs.{goes_as, goes_nowhere}
use Rattle.link_frames.specs.Frames.{content_of}
use Rattle.journaled_steps.specs.declared.faults.StepFault.TheVariants.{NoMemory}
use Rattle.journaled_steps.specs.Node.{node_with}
use Rattle.journaled_steps.proofs.NothingDone.{quiet_moments}
use Rattle.journaled_steps.proofs.PartsOfSteps.{calls_as}
use Rattle.bank_node.specs.declared.preparing.Prepared.{Prepared}
use Rattle.bank_node.specs.BankRules.{bank_rules, listed}
use Rattle.bank_node.specs.Stepping.{step_of}
use Rattle.bank_node.proofs.Handled.{adding, sending, telling}
use Rattle.bank_node.proofs.node.BankNode.handle.Goals as goal

pub secure-answer-requires : goal.secure-answer-requires
secure-answer-requires g c =
    let list = c.self.inside.kept.list in
    c.steps_add_what_is_kept.ensures.follows list.opening list.entries (content_of c.args.frame.now) c.in-Some.entry c.books-books.ensures.sound c.books-books.ensures.kept
    (ap (λ (q : Prepared). q.entry) (sym c.in-Ok.ensures.told) ∙ c.in-Some.is)

pub returns-in-None-clause-calls : goal.returns-in-None-clause-calls
returns-in-None-clause-calls g c =
    let f = content_of c.args.frame.now in
    let inside = node_with (listed c.self.inside.kept.list) c.self.inside.kept c.self.inside.live in
    let node = c.args.self.now in
    goes_as _ _ (g.S.Site.told c.args.site.now) (g.S.Site.told c.send_step.new.site)
    (λ a b p. calls_as (step_of node.list f) None c.prepare.new.outbox c.in-Ok.prepared.outcome
    (adding f inside node c.self.view_is c.in-Ok.prepared c.in-Ok.ensures.told None c.in-None.is)
    (sending f inside node c.self.view_is c.in-Ok.prepared c.in-Ok.ensures.told c.prepare.new.outbox c.in-Ok.ensures.frames)
    (telling f inside node c.self.view_is c.in-Ok.prepared c.in-Ok.ensures.told)
    bank_rules c.send_step.result node.tail a b p)
    (c.send_step.ensures.calls node.tail)

pub returns-in-Err-clause-moments : goal.returns-in-Err-clause-moments
returns-in-Err-clause-moments g c =
    goes_nowhere _ (g.S.Site.told c.args.site.now)
    (λ a. quiet_moments bank_rules NoMemory tt (step_of c.args.self.now.list (content_of c.args.frame.now)) c.args.self.now _ a c.self.view_is)
