use Rattle.std.proofs.Common.{Bool, refl, sym, ◌∙◌, ap, subst, Ok, Err}
use Rattle.std.specs.Prelude.{IfSome}
use Rattle.site_core.specs.Log.{reads}
use Rattle.site_core.specs.Told.{Counted}
use Rattle.site_core.proofs.Runs.{goes_both, goes_on}
use Rattle.line_sessions.specs.declared.ends.SessionEnd.{SessionEnd}
use Rattle.node_session.specs.Ending.{AnswersImage, EndReason, Opens}
use Rattle.node_session.specs.Going.{GoesOn, TakesNext}
use Rattle.node_session.specs.Serving.{Session}
use Rattle.node_session.specs.Views.{View}
use Rattle.node_session.proofs.Images.{known_done, known_later, known_sound, known_unopened, opened, unopened}
use Rattle.node_session.proofs.LaterEnds.{opens_later, reason_on}
use Rattle.node_session.proofs.Opened.{begun, goes_sending, not_begun, not_opened}
use Rattle.host_node.specs.HostList.{host_rules, sent_again}
use Rattle.host_session.specs.HostKind.{host_kind}
use Rattle.host_session.proofs.Fits.{host_fit}
use Rattle.host_session.proofs.serving.serve.Goals as goal

pub returns-in-Err-clause-session : goal.returns-in-Err-clause-session
returns-in-Err-clause-session g c = not_begun host_kind host_fit _

pub returns-in-Err-resume-clause-session : goal.returns-in-Err-resume-clause-session
returns-in-Err-resume-clause-session g c =
    let start : View = record { left = g.I.Source.left c.args.input.now; given = g.C.Clock.given c.args.clock.now; site = g.S.Site.told c.args.site.now } in
    subst (λ (e : SessionEnd). Session host_kind (Err e) start (record { left = start.left; given = start.given; site = g.S.Site.told c.resume.new.site })) (sym c.open_end.ensures)
    (not_opened host_kind host_fit start (g.S.Site.told c.resume.new.site) c.in-Err-resume.fault c.in-Err-resume.ensures.image (goes_sending host_rules sent_again (unopened c.in-Err-resume.fault) start.site (g.S.Site.told c.resume.new.site) c.in-Err-resume.ensures.calls) c.in-Err-resume.ensures.moments)

pub returns-in-Err-resume-clause-image : goal.returns-in-Err-resume-clause-image
returns-in-Err-resume-clause-image g c =
    subst (λ (e : SessionEnd). IfSome (g.S.Site.told c.args.site.now) (λ told. AnswersImage host_kind (reads told.log) (Err e))) (sym c.open_end.ensures)
    (known_unopened host_kind (g.S.Site.told c.args.site.now) c.in-Err-resume.fault c.in-Err-resume.ensures.image)

pub loop-node-init : goal.loop-node-init
loop-node-init g c =
    let start : View = record { left = g.I.Source.left c.args.input.now; given = g.C.Clock.given c.args.clock.now; site = g.S.Site.told c.args.site.now } in
    record {
      going = begun host_kind host_fit start _ _ (g.S.Site.told c.resume.new.site) c.in-Ok.ensures c.in-Ok-resume.ensures.live (goes_sending host_rules sent_again (opened c.in-Ok-resume.node) start.site (g.S.Site.told c.resume.new.site) c.in-Ok-resume.ensures.calls) c.in-Ok-resume.ensures.moments;
      opened = known_sound host_kind (g.S.Site.told c.args.site.now) c.in-Ok-resume.node c.in-Ok-resume.ensures.image;
      live = c.in-Ok-resume.ensures.live;
      reads = refl;
      readings = refl;
      disk = c.in-Ok-resume.ensures.disk;
      line = c.in-Ok-resume.ensures.line;
    }

pub loop-node-preserved : goal.loop-node-preserved
loop-node-preserved g c =
    let start : View = record { left = g.I.Source.left c.args.input.now; given = g.C.Clock.given c.args.clock.now; site = g.S.Site.told c.args.site.now } in
    let before = c.loop-node.invariant in
    let said = c.in-Ok-true.ensures in
    let came = c.in-Ok-true.field-0-test in
    record {
      going = subst
          (λ (b : Bool). TakesNext host_kind (Ok b) start c.take_next.new.reader c.take_next.new.node
          (record { left = g.I.Source.left c.take_next.new.input; given = g.C.Clock.given c.take_next.new.clock; site = g.S.Site.told c.take_next.new.site }))
          came (said.told start before.going);
      opened = before.opened;
      live = said.live (ap (λ (b : Bool). Ok b) came);
      reads = said.read_faults.kept (λ e. absurd cc) ∙ before.reads;
      readings = said.clock_faults.kept (λ e. absurd cc) ∙ before.readings;
      disk = said.disk_faults.kept (λ e. absurd cc) ∙ before.disk;
      line = said.line_faults.kept (λ e. absurd cc) ∙ before.line;
    }

pub returns-in-Ok-false-clause-session : goal.returns-in-Ok-false-clause-session
returns-in-Ok-false-clause-session g c =
    let start : View = record { left = g.I.Source.left c.args.input.now; given = g.C.Clock.given c.args.clock.now; site = g.S.Site.told c.args.site.now } in
    subst
    (λ (b : Bool). TakesNext host_kind (Ok b) start c.take_next.new.reader c.take_next.new.node
    (record { left = g.I.Source.left c.take_next.new.input; given = g.C.Clock.given c.take_next.new.clock; site = g.S.Site.told c.take_next.new.site }))
    c.in-Ok-false.field-0-test (c.in-Ok-false.ensures.told start c.loop-node.invariant.going)

pub returns-in-Ok-false-clause-says : goal.returns-in-Ok-false-clause-says
returns-in-Ok-false-clause-says g c =
    goes_on (GoesOn host_kind c.loop-node.invariant.going.arrivals c.loop-node.node) Counted (Opens host_kind (Ok tt)) (g.S.Site.told c.args.site.now) (g.S.Site.told c.loop-node.site) (g.S.Site.told c.take_next.new.site)
    (λ x y z p q. tt) c.loop-node.invariant.going.site c.in-Ok-false.ensures.counted

pub returns-in-Ok-false-clause-image : goal.returns-in-Ok-false-clause-image
returns-in-Ok-false-clause-image g c = known_done host_kind (g.S.Site.told c.args.site.now) c.loop-node.invariant.opened

pub returns-in-Ok-false-clause-reason : goal.returns-in-Ok-false-clause-reason
returns-in-Ok-false-clause-reason g c =
    goes_on (GoesOn host_kind c.loop-node.invariant.going.arrivals c.loop-node.node) Counted (EndReason (Ok tt)) (g.S.Site.told c.args.site.now) (g.S.Site.told c.loop-node.site) (g.S.Site.told c.take_next.new.site)
    (λ x y z p q. tt) c.loop-node.invariant.going.site c.in-Ok-false.ensures.counted

pub returns-in-Err-take_next-clause-says : goal.returns-in-Err-take_next-clause-says
returns-in-Err-take_next-clause-says g c =
    goes_on (GoesOn host_kind c.loop-node.invariant.going.arrivals c.loop-node.node) Counted (Opens host_kind (Err c.in-Err-take_next.end)) (g.S.Site.told c.args.site.now) (g.S.Site.told c.loop-node.site) (g.S.Site.told c.take_next.new.site)
    (λ x y z p q. opens_later host_kind c.in-Err-take_next.end c.in-Err-take_next.ensures.never x z) c.loop-node.invariant.going.site c.in-Err-take_next.ensures.counted

pub returns-in-Err-take_next-clause-image : goal.returns-in-Err-take_next-clause-image
returns-in-Err-take_next-clause-image g c = known_later host_kind (g.S.Site.told c.args.site.now) c.in-Err-take_next.end c.in-Err-take_next.ensures.never c.loop-node.invariant.opened

pub returns-in-Err-take_next-clause-reason : goal.returns-in-Err-take_next-clause-reason
returns-in-Err-take_next-clause-reason g c =
    goes_on (GoesOn host_kind c.loop-node.invariant.going.arrivals c.loop-node.node) (λ y z. Counted y z × EndReason (Err c.in-Err-take_next.end) y z) (EndReason (Err c.in-Err-take_next.end))
    (g.S.Site.told c.args.site.now) (g.S.Site.told c.loop-node.site) (g.S.Site.told c.take_next.new.site)
    (λ x y z p q. reason_on c.in-Err-take_next.end x y z p.counted q.0 q.1) c.loop-node.invariant.going.site
    (goes_both Counted (EndReason (Err c.in-Err-take_next.end)) (λ y z. Counted y z × EndReason (Err c.in-Err-take_next.end) y z) (g.S.Site.told c.loop-node.site) (g.S.Site.told c.take_next.new.site)
    (λ y z p q. (p, q)) c.in-Err-take_next.ensures.counted c.in-Err-take_next.ensures.reason)
