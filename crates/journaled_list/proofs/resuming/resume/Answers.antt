use Rattle.std.proofs.Common.{◌≡◌, ◌∙◌, ◌++◌, refl, ap, Ok, Err, Some}
use Rattle.site_core.proofs.Runs.{goes_as, goes_on, goes_both, goes_knowing}
use Rattle.faim_base.specs.declared.faults.Failed.{Failed}
use Rattle.journaled_list.specs.Loading.{Finds, found_in}
use Rattle.journaled_list.proofs.ListsOfPayloads.{stand_lawful, stand_last}
use Rattle.journaled_list.proofs.ReadThenSent.{IsSent, finds_known, sent_some, sent_all, looked_all, line_calls}
use Rattle.journaled_list.proofs.resuming.resume.Goals as goal

pub send_again-requires-clause-lawful : goal.send_again-requires-clause-lawful
send_again-requires-clause-lawful g c =
    let f = c.in-Ok.ensures.says in
    stand_lawful g.L.Journaled.rules f.payloads (g.L.Journaled.list c.in-Ok.kept.list) c.in-Ok.kept.last f.stand

pub send_again-requires-clause-last : goal.send_again-requires-clause-last
send_again-requires-clause-last g c =
    let f = c.in-Ok.ensures.says in
    stand_last g.L.Journaled.rules f.payloads (g.L.Journaled.list c.in-Ok.kept.list) c.in-Ok.kept.last f.stand

pub returns-in-Ok-send_all-clause-moments : goal.returns-in-Ok-send_all-clause-moments
returns-in-Ok-send_all-clause-moments g c =
    let rules = g.L.Journaled.rules in
    let loaded = found_in g.L.Journaled.list c.in-Ok.kept in
    let frames : c.send_again.new.outbox ≡ g.L.Journaled.again loaded.list loaded.last = c.in-Ok-send_again.ensures ∙ ap (λ l. l ++ g.L.Journaled.again loaded.list loaded.last) c.clear.ensures in
    goes_on _ _ _ (g.S.Site.told c.args.site.now) (g.S.Site.told c.load-loaded.new.site) (g.S.Site.told c.send_all.new.site)
    (λ x y z p q. sent_all rules (g.met.L.Journaled.read_once) (found_in g.L.Journaled.list) g.L.Journaled.again loaded x y z p.0 p.1 c.send_again.new.outbox frames c.in-Ok.kept refl c.in-Ok-send_all.field-0 q)
    (goes_knowing (λ x. Finds rules (Some x) loaded) _ _ _ (finds_known rules loaded (g.S.Site.told c.args.site.now) c.in-Ok.ensures.says) c.in-Ok.ensures.told)
    (goes_both _ _ (IsSent {F = Failed} c.send_again.new.outbox (Ok c.in-Ok-send_all.field-0)) (g.S.Site.told c.load-loaded.new.site) (g.S.Site.told c.send_all.new.site) (λ y z p q. (p, q)) c.in-Ok-send_all.ensures.told c.in-Ok-send_all.ensures.moments)

pub returns-in-Err-send_all-clause-calls : goal.returns-in-Err-send_all-clause-calls
returns-in-Err-send_all-clause-calls g c =
    let rules = g.L.Journaled.rules in
    let loaded = found_in g.L.Journaled.list c.in-Ok.kept in
    let frames : c.send_again.new.outbox ≡ g.L.Journaled.again loaded.list loaded.last = c.in-Ok-send_again.ensures ∙ ap (λ l. l ++ g.L.Journaled.again loaded.list loaded.last) c.clear.ensures in
    goes_on _ _ _ (g.S.Site.told c.args.site.now) (g.S.Site.told c.load-loaded.new.site) (g.S.Site.told c.send_all.new.site)
    (λ x y z p q. line_calls rules (found_in g.L.Journaled.list) g.L.Journaled.again loaded x y z p.0 p.1 c.send_again.new.outbox frames c.in-Err-send_all.field-0 q)
    (goes_knowing (λ x. Finds rules (Some x) loaded) _ _ _ (finds_known rules loaded (g.S.Site.told c.args.site.now) c.in-Ok.ensures.says) c.in-Ok.ensures.told)
    c.in-Err-send_all.ensures.told

pub returns-in-Err-send_all-clause-moments : goal.returns-in-Err-send_all-clause-moments
returns-in-Err-send_all-clause-moments g c =
    let rules = g.L.Journaled.rules in
    let loaded = found_in g.L.Journaled.list c.in-Ok.kept in
    let frames : c.send_again.new.outbox ≡ g.L.Journaled.again loaded.list loaded.last = c.in-Ok-send_again.ensures ∙ ap (λ l. l ++ g.L.Journaled.again loaded.list loaded.last) c.clear.ensures in
    goes_on _ _ _ (g.S.Site.told c.args.site.now) (g.S.Site.told c.load-loaded.new.site) (g.S.Site.told c.send_all.new.site)
    (λ x y z p q. sent_some rules (g.met.L.Journaled.read_once) (found_in g.L.Journaled.list) g.L.Journaled.again loaded x y z p.0 p.1 c.send_again.new.outbox frames c.in-Err-send_all.field-0 q)
    (goes_knowing (λ x. Finds rules (Some x) loaded) _ _ _ (finds_known rules loaded (g.S.Site.told c.args.site.now) c.in-Ok.ensures.says) c.in-Ok.ensures.told)
    (goes_both _ _ (IsSent {T = Unit {0}} c.send_again.new.outbox (Err c.in-Err-send_all.field-0)) (g.S.Site.told c.load-loaded.new.site) (g.S.Site.told c.send_all.new.site) (λ y z p q. (p, q)) c.in-Err-send_all.ensures.told c.in-Err-send_all.ensures.moments)

pub returns-in-Err-clause-moments : goal.returns-in-Err-clause-moments
returns-in-Err-clause-moments g c =
    goes_as _ _ (g.S.Site.told c.args.site.now) (g.S.Site.told c.load-loaded.new.site)
    (λ x y p. looked_all g.L.Journaled.rules (found_in g.L.Journaled.list) g.L.Journaled.again c.in-Err.fault _ x y p)
    c.in-Err.ensures.told
