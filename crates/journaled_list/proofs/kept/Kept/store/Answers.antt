use Rattle.std.proofs.Common.{subst, Ok, Err}
use Rattle.site_core.proofs.Runs.{goes_both}
use Rattle.torn_journal.specs.Journal.{payload_of}
use Rattle.store_forward.specs.declared.faults.ForwardFault.{ForwardFault}
use Rattle.store_forward.specs.declared.faults.ForwardFault.TheVariants.{SiteFault, LineFault}
use Rattle.store_forward.specs.Storing.{StoreCalls, Stores}
use Rattle.journaled_list.proofs.GroupsStored.{group_stored}
use Rattle.journaled_list.proofs.kept.Kept.store.Goals as goal

pub returns-in-Ok-clause-moments : goal.returns-in-Ok-clause-moments
returns-in-Ok-clause-moments g c =
    goes_both _ _ _ (g.S.Site.told c.args.site.now) (g.S.Site.told c.store_and_forward.new.site)
    (λ x y p q. group_stored g.L.Journaled.rules (Ok c.in-Ok.field-0) c.args.self.now.journal c.store_and_forward.new.journal c.args.framed.now (payload_of c.args.framed.now) c.args.outbox.now x y p q)
    c.in-Ok.ensures.calls c.in-Ok.ensures.moments

pub returns-in-Err-LineFault-clause-moments : goal.returns-in-Err-LineFault-clause-moments
returns-in-Err-LineFault-clause-moments g c =
    goes_both _ _ _ (g.S.Site.told c.args.site.now) (g.S.Site.told c.store_and_forward.new.site)
    (λ x y p q. group_stored g.L.Journaled.rules (Err LineFault) c.args.self.now.journal c.store_and_forward.new.journal c.args.framed.now (payload_of c.args.framed.now) c.args.outbox.now x y
    (subst (λ (f : ForwardFault). StoreCalls c.args.self.now.journal c.args.framed.now c.args.outbox.now (Err f) x y) c.in-Err-LineFault.field-0-is p)
    (subst (λ (f : ForwardFault). Stores (Err f) c.args.self.now.journal c.store_and_forward.new.journal (payload_of c.args.framed.now) c.args.outbox.now x y) c.in-Err-LineFault.field-0-is q))
    c.in-Err-LineFault.ensures.calls c.in-Err-LineFault.ensures.moments

pub returns-in-Err-SiteFault-clause-moments : goal.returns-in-Err-SiteFault-clause-moments
returns-in-Err-SiteFault-clause-moments g c =
    goes_both _ _ _ (g.S.Site.told c.args.site.now) (g.S.Site.told c.store_and_forward.new.site)
    (λ x y p q. group_stored g.L.Journaled.rules (Err SiteFault) c.args.self.now.journal c.store_and_forward.new.journal c.args.framed.now (payload_of c.args.framed.now) c.args.outbox.now x y
    (subst (λ (f : ForwardFault). StoreCalls c.args.self.now.journal c.args.framed.now c.args.outbox.now (Err f) x y) c.in-Err-SiteFault.field-0-is p)
    (subst (λ (f : ForwardFault). Stores (Err f) c.args.self.now.journal c.store_and_forward.new.journal (payload_of c.args.framed.now) c.args.outbox.now x y) c.in-Err-SiteFault.field-0-is q))
    c.in-Err-SiteFault.ensures.calls c.in-Err-SiteFault.ensures.moments
