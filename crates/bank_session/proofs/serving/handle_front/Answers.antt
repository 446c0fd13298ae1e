use Rattle.std.proofs.Common.{ℕ, List, ◌++◌, refl, sym, ◌∙◌, ap, subst, Ok, Err}
use Rattle.site_core.specs.Told.{Counted}
use Rattle.site_core.proofs.Runs.{goes_as}
use Rattle.link_frames.specs.Frames.{content_of, frame_bytes}
use Rattle.framed_input.specs.FramesIn.{after_front}
use Rattle.bank_books.specs.declared.outcomes.BankOutcome.{BankOutcome}
use Rattle.line_sessions.specs.declared.ends.SessionEnd.{SessionEnd}
use Rattle.bank_node.specs.BankRules.{bank_rules}
use Rattle.node_session.specs.Serving.{Session}
use Rattle.node_session.proofs.FrameTaken.{handled, known_same, not_handled}
use Rattle.node_session.proofs.OneEvent.{step_grown}
use Rattle.node_session.proofs.WentOn.{said_at}
use Rattle.bank_session.specs.BankKind.{bank_kind}
use Rattle.bank_session.proofs.Fits.{bank_fit}
use Rattle.bank_session.proofs.serving.handle_front.Goals as goal

pub returns-in-Err-clause-told : goal.returns-in-Err-clause-told
returns-in-Err-clause-told g c = λ start left given going.
    let said = c.in-Err.ensures in
    let fault = c.in-Err.fault in
    subst (λ (e : SessionEnd). Session bank_kind (Err e) start (record { left = left; given = given; site = g.S.Site.told c.handle.new.site })) (sym c.step_end.ensures)
    (not_handled bank_kind bank_fit start left _ _ _ _ going (content_of c.in-Some.frame) c.in-Some.ensures.frame.0
    (record { held = after_front c.args.reader.now.held; taken = c.args.reader.now.taken }) c.in-Some.ensures.frame.1 refl
    (content_of c.in-Some.frame) refl c.in-Some.ensures.frame.0 given (known_same given)
    fault c.handle.new.self (g.S.Site.told c.handle.new.site) said.node said.room
    (said_at bank_kind (Err fault) (content_of c.in-Some.frame) c.args.node.now c.handle.new.self (g.S.Site.told c.args.site.now) (g.S.Site.told c.handle.new.site) said.calls said.sent said.moments))

pub returns-in-Err-clause-counted : goal.returns-in-Err-clause-counted
returns-in-Err-clause-counted g c =
    goes_as _ Counted (g.S.Site.told c.args.site.now) (g.S.Site.told c.handle.new.site)
    (λ x y calls. (step_grown {X = BankOutcome} bank_rules _ _ _ (Err c.in-Err.fault) x y calls).counted) c.in-Err.ensures.calls

pub returns-clause-told : goal.returns-clause-told
returns-clause-told g c = λ start left given going.
    let said = c.in-Ok.ensures in
    handled bank_kind bank_fit start left _ _ _ _ going (content_of c.in-Some.frame) c.in-Some.ensures.frame.0
    c.hand_out.new.self (c.in-Some.ensures.frame.1 ∙ ap (λ (l : List ℕ). frame_bytes (content_of c.in-Some.frame) ++ l) (sym c.hand_out.ensures.held)) c.hand_out.ensures.taken
    (content_of c.in-Some.frame) refl c.in-Some.ensures.frame.0 given (known_same given)
    c.in-Ok.field-0 c.handle.new.self (g.S.Site.told c.handle.new.site) said.node
    (said_at bank_kind (Ok c.in-Ok.field-0) (content_of c.in-Some.frame) c.args.node.now c.handle.new.self (g.S.Site.told c.args.site.now) (g.S.Site.told c.handle.new.site) said.calls said.sent said.moments)

pub returns-clause-counted : goal.returns-clause-counted
returns-clause-counted g c =
    goes_as _ Counted (g.S.Site.told c.args.site.now) (g.S.Site.told c.handle.new.site)
    (λ x y calls. (step_grown {X = BankOutcome} bank_rules _ _ _ (Ok c.in-Ok.field-0) x y calls).counted) c.in-Ok.ensures.calls
