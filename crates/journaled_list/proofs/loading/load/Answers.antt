use Rattle.std.proofs.Common.{refl, Err, subst}
use Rattle.site_core.specs.Log.{reads}
use Rattle.torn_journal.specs.Resume as journals
use Rattle.torn_journal.specs.declared.faults.ResumeFault.{ResumeFault}
use Rattle.journaled_list.specs.Loading.{found_in}
use Rattle.journaled_list.specs.Payloads.{MayCome}
use Rattle.journaled_list.specs.Reading.{IsLoaded}
use Rattle.journaled_list.proofs.AnswersOfLoads.{if_some_as, answers_found, answers_none, answers_damaged}
use Rattle.journaled_list.proofs.loading.load.Goals as goal

pub returns-in-Some-clause-image : goal.returns-in-Some-clause-image
returns-in-Some-clause-image g c =
    let rules = g.L.Journaled.rules in
    let v = c.resume.new.visit in
    if_some_as _ _ (g.S.Site.told c.args.site.now)
    (λ site answers. answers_found rules g.L.Journaled.list v.list v.last (reads site.log) (found_in g.L.Journaled.list) (record { list = c.in-Some.list; journal = c.in-Ok.journal; last = v.last }) c.in-Some.list c.in-Ok.journal (g.met.L.Journaled.read_once) c.in-Some.is refl answers)
    c.in-Ok.ensures.image

pub returns-in-Ok-clause-image : goal.returns-in-Ok-clause-image
returns-in-Ok-clause-image g c =
    let v = c.resume.new.visit in
    if_some_as _ _ (g.S.Site.told c.args.site.now)
    (λ site answers. answers_none g.L.Journaled.rules g.L.Journaled.list v.list v.last (reads site.log) (found_in g.L.Journaled.list) c.in-Ok.journal c.in-None.is answers)
    c.in-Ok.ensures.image

pub returns-in-Err-Damaged-clause-image : goal.returns-in-Err-Damaged-clause-image
returns-in-Err-Damaged-clause-image g c =
    let v = c.resume.new.visit in
    if_some_as _ _ (g.S.Site.told c.args.site.now)
    (λ site answers. answers_damaged g.L.Journaled.rules g.L.Journaled.list v.list v.last (reads site.log) (found_in g.L.Journaled.list) c.in-Err-Damaged.place
    (subst (λ (f : ResumeFault). journals.AnswersImage (MayCome g.L.Journaled.rules) (IsLoaded g.L.Journaled.rules g.L.Journaled.list v.list v.last) (reads site.log) (Err f)) c.in-Err-Damaged.field-0-is answers))
    c.in-Err-Damaged.ensures.image
