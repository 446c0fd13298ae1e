use Rattle.std.proofs.Common.{◌≡◌, ◌∙◌, length, refl, ap, Some}
use Rattle.site_core.proofs.Runs.{goes_nowhere}
use Rattle.host_ledger.specs.declared.config.Config.{Config}
use Rattle.host_ledger.specs.declared.entries.Entry.{Entry}
use Rattle.faim_model.specs.declared.decisions.HostOutcome.{HostOutcome}
use Rattle.journaled_list.specs.Rules.{Listed}
use Rattle.journaled_steps.specs.declared.faults.StepFault.TheVariants.{NoMemory}
use Rattle.journaled_steps.specs.Steps.{record_for, stores_and_sends}
use Rattle.journaled_steps.proofs.NothingDone.{no_room, quiet_calls, quiet_moments, quiet_node, quiet_reason, quiet_sends, room_is_quiet, unmoved}
use Rattle.host_node.specs.HostList.{host_rules}
use Rattle.host_node.proofs.securing.secure.Goals as goal

pub returns-in-Ok-room_for-clause-node : goal.returns-in-Ok-room_for-clause-node
returns-in-Ok-room_for-clause-node g c = λ before x newest.
    let is : c.deref-in-Ok-room_for.result.now ≡ record_for host_rules x = c.deref-in-Ok-room_for.ensures.value ∙ c.in-Ok.ensures.record x before.entries (ap (λ (l : Listed Config Entry). l.entries) newest.is) in
    c.store_step.ensures.node before x newest.is is

pub returns-in-Ok-room_for-clause-room : goal.returns-in-Ok-room_for-clause-room
returns-in-Ok-room_for-clause-room g c = λ before x newest.
    let is : c.deref-in-Ok-room_for.result.now ≡ record_for host_rules x = c.deref-in-Ok-room_for.ensures.value ∙ c.in-Ok.ensures.record x before.entries (ap (λ (l : Listed Config Entry). l.entries) newest.is) in
    c.store_step.ensures.room x is

pub returns-in-Ok-room_for-clause-calls : goal.returns-in-Ok-room_for-clause-calls
returns-in-Ok-room_for-clause-calls g c = λ before x newest.
    let is : c.deref-in-Ok-room_for.result.now ≡ record_for host_rules x = c.deref-in-Ok-room_for.ensures.value ∙ c.in-Ok.ensures.record x before.entries (ap (λ (l : Listed Config Entry). l.entries) newest.is) in
    c.store_step.ensures.calls x is

pub returns-in-Ok-room_for-clause-moments : goal.returns-in-Ok-room_for-clause-moments
returns-in-Ok-room_for-clause-moments g c = λ before x newest.
    let is : c.deref-in-Ok-room_for.result.now ≡ record_for host_rules x = c.deref-in-Ok-room_for.ensures.value ∙ c.in-Ok.ensures.record x before.entries (ap (λ (l : Listed Config Entry). l.entries) newest.is) in
    c.store_step.ensures.moments before x newest.is newest.follows is

pub returns-in-Ok-clause-node : goal.returns-in-Ok-clause-node
returns-in-Ok-clause-node g c = λ before x newest.
    let fault = c.in-Err-room_for.fault in
    let quiet = room_is_quiet fault c.args.kept.now.journal (length c.deref.result.now) c.in-Err-room_for.ensures in
    quiet_node host_rules fault quiet (stores_and_sends x c.args.outbox.now c.args.outcome) _ _ (unmoved fault quiet _ _ _ _ _ _ (c.take_back.ensures before x newest.is) refl refl)

pub returns-in-Ok-clause-room : goal.returns-in-Ok-clause-room
returns-in-Ok-clause-room g c = λ before x newest.
    let is : c.deref.result.now ≡ record_for host_rules x = c.deref.ensures.value ∙ c.in-Ok.ensures.record x before.entries (ap (λ (l : Listed Config Entry). l.entries) newest.is) in
    no_room HostOutcome host_rules c.in-Err-room_for.fault x c.deref.result.now c.args.kept.now.journal is c.in-Err-room_for.ensures

pub returns-in-Ok-clause-calls : goal.returns-in-Ok-clause-calls
returns-in-Ok-clause-calls g c = λ before x newest.
    let fault = c.in-Err-room_for.fault in
    let quiet = room_is_quiet fault c.args.kept.now.journal (length c.deref.result.now) c.in-Err-room_for.ensures in
    goes_nowhere _ (g.S.Site.told c.args.site.now) (λ a. quiet_calls HostOutcome host_rules fault quiet (Some x) c.args.outbox.now c.args.kept.now.journal a)

pub returns-in-Ok-clause-sent : goal.returns-in-Ok-clause-sent
returns-in-Ok-clause-sent g c =
    let fault = c.in-Err-room_for.fault in
    let quiet = room_is_quiet fault c.args.kept.now.journal (length c.deref.result.now) c.in-Err-room_for.ensures in
    goes_nowhere _ (g.S.Site.told c.args.site.now) (λ a. quiet_sends HostOutcome fault quiet c.args.outbox.now a)

pub returns-in-Ok-clause-moments : goal.returns-in-Ok-clause-moments
returns-in-Ok-clause-moments g c = λ before x newest.
    let fault = c.in-Err-room_for.fault in
    let quiet = room_is_quiet fault c.args.kept.now.journal (length c.deref.result.now) c.in-Err-room_for.ensures in
    goes_nowhere _ (g.S.Site.told c.args.site.now)
    (λ a. quiet_moments host_rules fault quiet (stores_and_sends x c.args.outbox.now c.args.outcome) _ _ a (unmoved fault quiet _ _ _ _ _ _ (c.take_back.ensures before x newest.is) refl refl))

pub returns-in-Ok-clause-reason : goal.returns-in-Ok-clause-reason
returns-in-Ok-clause-reason g c =
    let fault = c.in-Err-room_for.fault in
    let quiet = room_is_quiet fault c.args.kept.now.journal (length c.deref.result.now) c.in-Err-room_for.ensures in
    goes_nowhere _ (g.S.Site.told c.args.site.now) (λ a. quiet_reason HostOutcome fault quiet a)

pub returns-clause-node : goal.returns-clause-node
returns-clause-node g c = λ before x newest. unmoved NoMemory tt _ _ _ _ _ _ (c.take_back-in-Err.ensures before x newest.is) refl refl

pub returns-clause-moments : goal.returns-clause-moments
returns-clause-moments g c = λ before x newest.
    goes_nowhere _ (g.S.Site.told c.args.site.now)
    (λ a. quiet_moments host_rules NoMemory tt (stores_and_sends x c.args.outbox.now c.args.outcome) _ _ a (unmoved NoMemory tt _ _ _ _ _ _ (c.take_back-in-Err.ensures before x newest.is) refl refl))
