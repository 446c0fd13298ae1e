use Rattle.std.proofs.Common.{Bool, drop}
use Rattle.site_core.specs.Log.{reads}
use Rattle.site_core.proofs.Runs.{goes_on}
use Rattle.torn_journal.specs.Reading.{NextIs}
use Rattle.torn_journal.proofs.Questions.{second_failed, then_there, then_short, sized_payload}
use Rattle.torn_journal.proofs.reading.next_at.Goals as goal

pub returns-in_err-payload_at-in-Payload-clause-told : goal.returns-in_err-payload_at-in-Payload-clause-told
returns-in_err-payload_at-in-Payload-clause-told g c =
    goes_on _ _ _ _ _ _
    (λ x y z p q. second_failed Bool c.in_err-payload_at-in-Payload.field-0.0 c.from_residual-in_err-payload_at-in-Payload.result (NextIs (drop c.args.place (reads x.log)) c.payload_at.new.buffer.items) c.from_residual-in_err-payload_at-in-Payload.ensures.1 x y z p.0 q.0)
    c.in_ok-next.ensures.told c.in_err-payload_at-in-Payload.ensures.told

pub returns-then-branch-clause-told : goal.returns-then-branch-clause-told
returns-then-branch-clause-told g c =
    goes_on _ _ _ _ _ _
    (λ x y z p q. then_there c.args.place c.in-Payload.length c.in_ok-next.next c.in-Payload.is c.payload_at.new.buffer.items c.in_ok-payload_at-in-Payload.field-0 x y z p q c.if-branch.true c.in_ok-payload_at-in-Payload.ensures.long)
    c.in_ok-next.ensures.told c.in_ok-payload_at-in-Payload.ensures.told

pub returns-else-branch-clause-told : goal.returns-else-branch-clause-told
returns-else-branch-clause-told g c =
    goes_on _ _ _ _ _ _
    (λ x y z p q. then_short c.args.place c.in-Payload.length c.in_ok-next.next c.in-Payload.is c.payload_at.new.buffer.items c.in_ok-payload_at-in-Payload.field-0 x y z p q c.if-branch.false (sized_payload c.in_ok-next.next c.in-Payload.length c.in-Payload.is c.in_ok-next.ensures.sized))
    c.in_ok-next.ensures.told c.in_ok-payload_at-in-Payload.ensures.told
