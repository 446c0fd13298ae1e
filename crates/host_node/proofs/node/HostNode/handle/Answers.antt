use Rattle.std.proofs.Common.{◌∙◌, refl, sym, ap, subst, Bool, true, Some, None}
use Rattle.site_core.proofs.Runs.{goes_as, goes_nowhere}
use Rattle.link_frames.specs.Frames.{content_of}
use Rattle.host_ledger.specs.declared.config.Config.{Config}
use Rattle.host_ledger.specs.declared.entries.Entry.{Entry}
use Rattle.host_core.specs.State.{State}
use Rattle.journaled_list.specs.Rules.{Listed}
use Rattle.journaled_steps.specs.Node.{Node, node_with}
use Rattle.journaled_steps.specs.declared.faults.StepFault.TheVariants.{NoMemory}
use Rattle.journaled_steps.specs.Steps.{HandlesAll, NodeAfter, sends_only, stores_and_sends}
use Rattle.journaled_steps.proofs.NothingDone.{quiet_moments}
use Rattle.host_node.specs.HostList.{host_rules, listed}
use Rattle.host_node.specs.Stepping.{step_of}
use Rattle.host_node.proofs.Handled.{handled_calls, handled_moments, handled_node, handled_room, newest_by, none_of, not_added, still_same}
use Rattle.host_node.proofs.node.HostNode.handle.Goals as goal

pub secure-answer-requires : goal.secure-answer-requires
secure-answer-requires g c =
    let kept = c.self.inside.kept in
    let before : Listed Config Entry = listed kept.list.state in
    let added = newest_by c.prepare.new.state before (content_of c.args.frame.now) c.args.reading c.in-Ok.ensures.config c.in-Ok.ensures.entries c.steps_stay_lawful.ensures.follows c.steps_stay_lawful.ensures.moment c.entries_that_follow_are_spelled.ensures c.config-config.ensures.sound
    _ (c.get-minutes.ensures.value ∙ c.effective.ensures) c.get-minutes.ensures.range (c.in-Ok.ensures.added.0 c.if-prepared.true) in
    (before, added.0, added.2)

pub returns-then-prepared-clause-node : goal.returns-then-prepared-clause-node
returns-then-prepared-clause-node g c =
    let kept = c.self.inside.kept in
    let before : Listed Config Entry = listed kept.list.state in
    let now : Listed Config Entry = listed c.secure-answer.new.kept.list.state in
    let answer = c.secure-answer.result in
    let added = newest_by c.prepare.new.state before (content_of c.args.frame.now) c.args.reading c.in-Ok.ensures.config c.in-Ok.ensures.entries c.steps_stay_lawful.ensures.follows c.steps_stay_lawful.ensures.moment c.entries_that_follow_are_spelled.ensures c.config-config.ensures.sound
    _ (c.get-minutes.ensures.value ∙ c.effective.ensures) c.get-minutes.ensures.range (c.in-Ok.ensures.added.0 c.if-prepared.true) in
    handled_node (content_of c.args.frame.now) c.args.reading before kept.last kept.journal c.self.inside.live c.args.self.now c.self.view_is c.requires
    (Some added.0) c.prepare.new.outbox c.in-Ok.prepared.outcome added.1 c.in-Ok.ensures.frames c.in-Ok.ensures.outcome answer
    (node_with now c.secure-answer.new.kept c.is_live_after-self-inside.result)
    (subst (λ (b : Bool). NodeAfter host_rules answer (stores_and_sends added.0 c.prepare.new.outbox c.in-Ok.prepared.outcome) (node_with before kept true) (node_with now c.secure-answer.new.kept b))
    (sym c.is_live_after-self-inside.ensures) (c.secure-answer.ensures.node before added.0 added.2))

pub returns-then-prepared-clause-room : goal.returns-then-prepared-clause-room
returns-then-prepared-clause-room g c =
    let kept = c.self.inside.kept in
    let before : Listed Config Entry = listed kept.list.state in
    let added = newest_by c.prepare.new.state before (content_of c.args.frame.now) c.args.reading c.in-Ok.ensures.config c.in-Ok.ensures.entries c.steps_stay_lawful.ensures.follows c.steps_stay_lawful.ensures.moment c.entries_that_follow_are_spelled.ensures c.config-config.ensures.sound
    _ (c.get-minutes.ensures.value ∙ c.effective.ensures) c.get-minutes.ensures.range (c.in-Ok.ensures.added.0 c.if-prepared.true) in
    handled_room (content_of c.args.frame.now) c.args.reading before kept.last kept.journal c.self.inside.live c.args.self.now c.self.view_is c.requires
    (Some added.0) c.prepare.new.outbox c.in-Ok.prepared.outcome added.1 c.in-Ok.ensures.frames c.in-Ok.ensures.outcome c.secure-answer.result
    (c.secure-answer.ensures.room before added.0 added.2)

pub returns-then-prepared-clause-calls : goal.returns-then-prepared-clause-calls
returns-then-prepared-clause-calls g c =
    let kept = c.self.inside.kept in
    let before : Listed Config Entry = listed kept.list.state in
    let added = newest_by c.prepare.new.state before (content_of c.args.frame.now) c.args.reading c.in-Ok.ensures.config c.in-Ok.ensures.entries c.steps_stay_lawful.ensures.follows c.steps_stay_lawful.ensures.moment c.entries_that_follow_are_spelled.ensures c.config-config.ensures.sound
    _ (c.get-minutes.ensures.value ∙ c.effective.ensures) c.get-minutes.ensures.range (c.in-Ok.ensures.added.0 c.if-prepared.true) in
    goes_as _ _ (g.S.Site.told c.args.site.now) (g.S.Site.told c.secure-answer.new.site)
    (λ a b calls. handled_calls (content_of c.args.frame.now) c.args.reading before kept.last kept.journal c.self.inside.live c.args.self.now c.self.view_is c.requires
    (Some added.0) c.prepare.new.outbox c.in-Ok.prepared.outcome added.1 c.in-Ok.ensures.frames c.in-Ok.ensures.outcome c.secure-answer.result a b calls)
    (c.secure-answer.ensures.calls before added.0 added.2)

pub returns-then-prepared-clause-moments : goal.returns-then-prepared-clause-moments
returns-then-prepared-clause-moments g c =
    let kept = c.self.inside.kept in
    let before : Listed Config Entry = listed kept.list.state in
    let now : Listed Config Entry = listed c.secure-answer.new.kept.list.state in
    let answer = c.secure-answer.result in
    let added = newest_by c.prepare.new.state before (content_of c.args.frame.now) c.args.reading c.in-Ok.ensures.config c.in-Ok.ensures.entries c.steps_stay_lawful.ensures.follows c.steps_stay_lawful.ensures.moment c.entries_that_follow_are_spelled.ensures c.config-config.ensures.sound
    _ (c.get-minutes.ensures.value ∙ c.effective.ensures) c.get-minutes.ensures.range (c.in-Ok.ensures.added.0 c.if-prepared.true) in
    goes_as _ _ (g.S.Site.told c.args.site.now) (g.S.Site.told c.secure-answer.new.site)
    (λ a b all. handled_moments (content_of c.args.frame.now) c.args.reading before kept.last kept.journal c.self.inside.live c.args.self.now c.self.view_is c.requires
    (Some added.0) c.prepare.new.outbox c.in-Ok.prepared.outcome added.1 c.in-Ok.ensures.frames c.in-Ok.ensures.outcome answer
    (node_with now c.secure-answer.new.kept c.is_live_after-self-inside.result) a b
    (subst (λ (l : Bool). HandlesAll host_rules answer (stores_and_sends added.0 c.prepare.new.outbox c.in-Ok.prepared.outcome) (node_with before kept true) (node_with now c.secure-answer.new.kept l) a b)
    (sym c.is_live_after-self-inside.ensures) all))
    (c.secure-answer.ensures.moments before added.0 added.2)

pub returns-else-prepared-clause-node : goal.returns-else-prepared-clause-node
returns-else-prepared-clause-node g c =
    let kept = c.self.inside.kept in
    let before : Listed Config Entry = listed kept.list.state in
    let none = none_of (step_of before (content_of c.args.frame.now) c.args.reading).adds c.in-Ok.prepared.added c.in-Ok.ensures.added.1 c.if-prepared.false in
    let same = not_added c.prepare.new.state before (step_of before (content_of c.args.frame.now) c.args.reading).adds c.in-Ok.ensures.config c.in-Ok.ensures.entries none in
    let still = still_same (content_of c.args.frame.now) c.args.reading before kept.last kept.journal c.self.inside.live c.args.self.now c.self.view_is c.requires (listed c.prepare.new.state) same in
    handled_node (content_of c.args.frame.now) c.args.reading before kept.last kept.journal c.self.inside.live c.args.self.now c.self.view_is c.requires
    None c.prepare.new.outbox c.in-Ok.prepared.outcome none c.in-Ok.ensures.frames c.in-Ok.ensures.outcome c.send_step.result _
    (subst (λ (n : Node Config Entry). NodeAfter host_rules c.send_step.result (sends_only c.prepare.new.outbox c.in-Ok.prepared.outcome) (node_with before kept true) n)
    (sym still) (c.send_step.ensures.node (node_with before kept true) refl))

pub returns-else-prepared-clause-room : goal.returns-else-prepared-clause-room
returns-else-prepared-clause-room g c =
    let kept = c.self.inside.kept in
    let before : Listed Config Entry = listed kept.list.state in
    let none = none_of (step_of before (content_of c.args.frame.now) c.args.reading).adds c.in-Ok.prepared.added c.in-Ok.ensures.added.1 c.if-prepared.false in
    handled_room (content_of c.args.frame.now) c.args.reading before kept.last kept.journal c.self.inside.live c.args.self.now c.self.view_is c.requires
    None c.prepare.new.outbox c.in-Ok.prepared.outcome none c.in-Ok.ensures.frames c.in-Ok.ensures.outcome c.send_step.result
    (c.send_step.ensures.room kept.journal)

pub returns-else-prepared-clause-calls : goal.returns-else-prepared-clause-calls
returns-else-prepared-clause-calls g c =
    let kept = c.self.inside.kept in
    let before : Listed Config Entry = listed kept.list.state in
    let none = none_of (step_of before (content_of c.args.frame.now) c.args.reading).adds c.in-Ok.prepared.added c.in-Ok.ensures.added.1 c.if-prepared.false in
    goes_as _ _ (g.S.Site.told c.args.site.now) (g.S.Site.told c.send_step.new.site)
    (λ a b calls. handled_calls (content_of c.args.frame.now) c.args.reading before kept.last kept.journal c.self.inside.live c.args.self.now c.self.view_is c.requires
    None c.prepare.new.outbox c.in-Ok.prepared.outcome none c.in-Ok.ensures.frames c.in-Ok.ensures.outcome c.send_step.result a b calls)
    (c.send_step.ensures.calls kept.journal)

pub returns-else-prepared-clause-moments : goal.returns-else-prepared-clause-moments
returns-else-prepared-clause-moments g c =
    let kept = c.self.inside.kept in
    let before : Listed Config Entry = listed kept.list.state in
    let none = none_of (step_of before (content_of c.args.frame.now) c.args.reading).adds c.in-Ok.prepared.added c.in-Ok.ensures.added.1 c.if-prepared.false in
    let same = not_added c.prepare.new.state before (step_of before (content_of c.args.frame.now) c.args.reading).adds c.in-Ok.ensures.config c.in-Ok.ensures.entries none in
    let still = still_same (content_of c.args.frame.now) c.args.reading before kept.last kept.journal c.self.inside.live c.args.self.now c.self.view_is c.requires (listed c.prepare.new.state) same in
    goes_as _ _ (g.S.Site.told c.args.site.now) (g.S.Site.told c.send_step.new.site)
    (λ a b all. handled_moments (content_of c.args.frame.now) c.args.reading before kept.last kept.journal c.self.inside.live c.args.self.now c.self.view_is c.requires
    None c.prepare.new.outbox c.in-Ok.prepared.outcome none c.in-Ok.ensures.frames c.in-Ok.ensures.outcome c.send_step.result _ a b
    (subst (λ (n : Node Config Entry). HandlesAll host_rules c.send_step.result (sends_only c.prepare.new.outbox c.in-Ok.prepared.outcome) (node_with before kept true) n a b)
    (sym still) all))
    (c.send_step.ensures.moments (node_with before kept true))

pub returns-in-Err-clause-moments : goal.returns-in-Err-clause-moments
returns-in-Err-clause-moments g c =
    goes_nowhere _ (g.S.Site.told c.args.site.now)
    (λ a. quiet_moments host_rules NoMemory tt (step_of c.args.self.now.list (content_of c.args.frame.now) c.args.reading) c.args.self.now _ a
    (ap (λ (s : State). node_with (listed s) c.self.inside.kept c.self.inside.live) c.in-Err.ensures.kept ∙ c.self.view_is))
