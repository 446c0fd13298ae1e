use Rattle.std.proofs.Common.{refl, ap, length, Some}
use Rattle.site_core.proofs.Runs.{goes_nowhere}
use Rattle.bank_books.specs.declared.outcomes.BankOutcome.{BankOutcome}
use Rattle.journaled_steps.specs.declared.faults.StepFault.TheVariants.{NoMemory}
use Rattle.journaled_steps.specs.Steps.{stores_and_sends}
use Rattle.journaled_steps.proofs.NothingDone.{quiet_calls, quiet_moments, quiet_reason, quiet_sends, room_is_quiet, unmoved, without_memory}
use Rattle.bank_node.specs.BankRules.{bank_rules, listed}
use Rattle.bank_node.proofs.securing.secure.Goals as goal

pub returns-in-Ok-room_for-clause-moments : goal.returns-in-Ok-room_for-clause-moments
returns-in-Ok-room_for-clause-moments g c =
    goes_nowhere _ (g.S.Site.told c.args.site.now)
    (λ a. quiet_moments bank_rules NoMemory tt (stores_and_sends c.args.entry c.args.outbox.now c.args.outcome) _ _ a (unmoved NoMemory tt _ _ _ _ _ _ (ap listed c.in-Err-push.ensures.err) refl refl))

pub returns-in-Ok-clause-calls : goal.returns-in-Ok-clause-calls
returns-in-Ok-clause-calls g c =
    let quiet = room_is_quiet c.in-Err-room_for.fault c.args.kept.now.journal (length c.as_slice.result.now) c.in-Err-room_for.ensures in
    goes_nowhere _ (g.S.Site.told c.args.site.now) (λ a. quiet_calls BankOutcome bank_rules c.in-Err-room_for.fault quiet (Some c.args.entry) c.args.outbox.now c.args.kept.now.journal a)

pub returns-in-Ok-clause-sent : goal.returns-in-Ok-clause-sent
returns-in-Ok-clause-sent g c =
    let quiet = room_is_quiet c.in-Err-room_for.fault c.args.kept.now.journal (length c.as_slice.result.now) c.in-Err-room_for.ensures in
    goes_nowhere _ (g.S.Site.told c.args.site.now) (λ a. quiet_sends BankOutcome c.in-Err-room_for.fault quiet c.args.outbox.now a)

pub returns-in-Ok-clause-reason : goal.returns-in-Ok-clause-reason
returns-in-Ok-clause-reason g c =
    let quiet = room_is_quiet c.in-Err-room_for.fault c.args.kept.now.journal (length c.as_slice.result.now) c.in-Err-room_for.ensures in
    goes_nowhere _ (g.S.Site.told c.args.site.now) (λ a. quiet_reason BankOutcome c.in-Err-room_for.fault quiet a)

pub returns-in-Ok-clause-moments : goal.returns-in-Ok-clause-moments
returns-in-Ok-clause-moments g c =
    let quiet = room_is_quiet c.in-Err-room_for.fault c.args.kept.now.journal (length c.as_slice.result.now) c.in-Err-room_for.ensures in
    goes_nowhere _ (g.S.Site.told c.args.site.now)
    (λ a. quiet_moments bank_rules c.in-Err-room_for.fault quiet (stores_and_sends c.args.entry c.args.outbox.now c.args.outcome) _ _ a (unmoved c.in-Err-room_for.fault quiet _ _ _ _ _ _ refl refl refl))

pub returns-clause-moments : goal.returns-clause-moments
returns-clause-moments g c = goes_nowhere _ (g.S.Site.told c.args.site.now) (λ a. without_memory bank_rules _ _ a)
