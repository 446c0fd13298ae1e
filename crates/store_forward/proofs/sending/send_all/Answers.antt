use Rattle.std.proofs.Common.{◌+◌, Ok, Err, ◌∙◌, ◌<◌, length, arith}
use Rattle.faim_base.specs.declared.faults.Failed.{Failed}
use Rattle.site_core.proofs.Runs.{goes_as, goes_on}
use Rattle.store_forward.specs.Sending.{SendCalls}
use Rattle.store_forward.proofs.SendLoop.{SentBefore, and_next, one_sent, one_failed, all_sent, moments_of}
use Rattle.store_forward.proofs.sending.send_all.Goals as goal

pub loop-place-preserved : goal.loop-place-preserved
loop-place-preserved g c =
    let i = c.loop-place.place in
    let all = c.args.outbox.now in
    let lt : i < length all = omega (arith, c.loop-place-test.true, c.len-place-end.ensures) in
    let next = and_next all i c.frame.result.now lt c.frame.ensures in (
      goes_on _ _ (SentBefore (i + 1) all) _ _ _ (λ x y z p q. one_sent i all c.frame.result.now next x y z p c.in-Ok.field-0 q) c.loop-place.invariant.0 c.in-Ok.ensures.told,
      c.in-Ok.ensures.cause.kept ∙ c.loop-place.invariant.1,
      c.send.ensures.disk ∙ c.loop-place.invariant.2,
    )

pub returns-in-Err-clause-told : goal.returns-in-Err-clause-told
returns-in-Err-clause-told g c =
    let i = c.loop-place.place in
    let all = c.args.outbox.now in
    let lt : i < length all = omega (arith, c.loop-place-test.true, c.len-place-end.ensures) in
    let next = and_next all i c.frame.result.now lt c.frame.ensures in
    goes_on _ _ (SendCalls {T = Unit {0}} {E = Failed} all (Err c.in-Err.fault)) _ _ _ (λ x y z p q. one_failed i all c.frame.result.now next x y z p c.in-Err.fault lt q) c.loop-place.invariant.0 c.in-Err.ensures.told

pub returns-in-Err-clause-moments : goal.returns-in-Err-clause-moments
returns-in-Err-clause-moments g c =
    goes_as _ _ (g.S.Site.told c.args.site.now) (g.S.Site.told c.send.new.self) (λ x y p. moments_of {T = Unit {0}} {E = Failed} c.args.outbox.now x y (Err c.in-Err.fault) p) (returns-in-Err-clause-told g c)

pub returns-clause-told : goal.returns-clause-told
returns-clause-told g c =
    goes_as _ _ (g.S.Site.told c.args.site.now) (g.S.Site.told c.loop-place.site)
    (λ x y p. all_sent Failed tt c.loop-place.place c.args.outbox.now (omega (arith, c.loop-place-test.false, c.len-place-end.ensures)) x y p)
    c.loop-place.invariant.0

pub returns-clause-moments : goal.returns-clause-moments
returns-clause-moments g c =
    goes_as _ _ (g.S.Site.told c.args.site.now) (g.S.Site.told c.loop-place.site) (λ x y p. moments_of {T = Unit {0}} {E = Failed} c.args.outbox.now x y (Ok tt) p) (returns-clause-told g c)
