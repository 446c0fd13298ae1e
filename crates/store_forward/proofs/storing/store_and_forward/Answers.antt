use Rattle.std.proofs.Common.{Ok, Err}
use Rattle.faim_base.specs.declared.faults.Failed.{Failed}
use Rattle.site_core.proofs.Runs.{goes_as, goes_on, goes_both}
use Rattle.torn_journal.specs.Journal.{payload_of}
use Rattle.store_forward.specs.declared.faults.ForwardFault.TheVariants.{LineFault}
use Rattle.store_forward.specs.Storing.{StoreSends}
use Rattle.store_forward.proofs.RecordFirst.{Went, SendsSo, calls_all, calls_some, calls_send, moments_all, moments_some}
use Rattle.store_forward.proofs.storing.store_and_forward.Goals as goal

pub returns-in-Ok-send_all-clause-calls : goal.returns-in-Ok-send_all-clause-calls
returns-in-Ok-send_all-clause-calls g c =
    goes_on _ _ _ _ _ _ (λ x y z p q. calls_all c.args.journal.now c.args.framed.now c.args.outbox.now x y z c.in-Ok.field-0 p Failed c.in-Ok-send_all.field-0 tt q) c.in-Ok.ensures.calls c.in-Ok-send_all.ensures.told

pub returns-in-Ok-send_all-clause-moments : goal.returns-in-Ok-send_all-clause-moments
returns-in-Ok-send_all-clause-moments g c =
    goes_on _ _ _ _ _ _
    (λ x y z p q. moments_all c.args.journal.now c.append.new.self c.args.framed.now (payload_of c.args.framed.now) c.args.outbox.now x y z c.in-Ok.field-0 p Failed c.in-Ok-send_all.field-0 tt q)
    (goes_both _ _ (Went c.args.journal.now c.append.new.self c.args.framed.now (payload_of c.args.framed.now) c.in-Ok.field-0) (g.S.Site.told c.args.site.now) (g.S.Site.told c.append.new.site) (λ x y p q. (p, q)) c.in-Ok.ensures.moments c.in-Ok.ensures.calls)
    (goes_both _ _ (SendsSo {E = Failed} c.args.outbox.now (Ok c.in-Ok-send_all.field-0)) (g.S.Site.told c.append.new.site) (g.S.Site.told c.send_all.new.site) (λ x y p q. (p, q)) c.in-Ok-send_all.ensures.told c.in-Ok-send_all.ensures.moments)

pub returns-in-Ok-send_all-clause-sent : goal.returns-in-Ok-send_all-clause-sent
returns-in-Ok-send_all-clause-sent g c =
    goes_as _ (StoreSends c.args.outbox.now (Ok tt)) (g.S.Site.told c.args.site.now) (g.S.Site.told c.send_all.new.site) (λ x y p. calls_send c.args.journal.now c.args.framed.now c.args.outbox.now (Ok tt) x y p) (returns-in-Ok-send_all-clause-calls g c)

pub returns-in-Err-clause-calls : goal.returns-in-Err-clause-calls
returns-in-Err-clause-calls g c =
    goes_on _ _ _ _ _ _ (λ x y z p q. calls_some c.args.journal.now c.args.framed.now c.args.outbox.now x y z c.in-Ok.field-0 p c.in-Err.field-0 q) c.in-Ok.ensures.calls c.in-Err.ensures.told

pub returns-in-Err-clause-moments : goal.returns-in-Err-clause-moments
returns-in-Err-clause-moments g c =
    goes_on _ _ _ _ _ _
    (λ x y z p q. moments_some c.args.journal.now c.append.new.self c.args.framed.now (payload_of c.args.framed.now) c.args.outbox.now x y z c.in-Ok.field-0 p c.in-Err.field-0 q)
    (goes_both _ _ (Went c.args.journal.now c.append.new.self c.args.framed.now (payload_of c.args.framed.now) c.in-Ok.field-0) (g.S.Site.told c.args.site.now) (g.S.Site.told c.append.new.site) (λ x y p q. (p, q)) c.in-Ok.ensures.moments c.in-Ok.ensures.calls)
    (goes_both _ _ (SendsSo {E = Failed} c.args.outbox.now (Err c.in-Err.field-0)) (g.S.Site.told c.append.new.site) (g.S.Site.told c.send_all.new.site) (λ x y p q. (p, q)) c.in-Err.ensures.told c.in-Err.ensures.moments)

pub returns-in-Err-clause-sent : goal.returns-in-Err-clause-sent
returns-in-Err-clause-sent g c =
    goes_as _ (StoreSends c.args.outbox.now (Err LineFault)) (g.S.Site.told c.args.site.now) (g.S.Site.told c.send_all.new.site) (λ x y p. calls_send c.args.journal.now c.args.framed.now c.args.outbox.now (Err LineFault) x y p) (returns-in-Err-clause-calls g c)
