use Rattle.std.proofs.Common.{ℕ, List, ◌++◌, refl, sym, ◌∙◌, ap, subst, Ok, Err}
use Rattle.site_core.specs.Told.{Counted}
use Rattle.site_core.proofs.Runs.{goes_as}
use Rattle.faim_base.specs.Numbers.{IsMoment}
use Rattle.link_frames.specs.Frames.{content_of, frame_bytes}
use Rattle.framed_input.specs.FramesIn.{after_front}
use Rattle.faim_model.specs.declared.decisions.HostOutcome.{HostOutcome}
use Rattle.faim_model.specs.Sessions.{Arrival}
use Rattle.line_sessions.specs.declared.ends.SessionEnd.{SessionEnd}
use Rattle.host_node.specs.HostList.{host_rules}
use Rattle.node_session.specs.Serving.{Session}
use Rattle.node_session.proofs.FrameTaken.{handled, not_handled, without_reading}
use Rattle.node_session.proofs.OneEvent.{step_grown}
use Rattle.node_session.proofs.WentOn.{said_at}
use Rattle.host_session.specs.HostKind.{host_kind}
use Rattle.host_session.proofs.Fits.{host_fit}
use Rattle.host_session.proofs.serving.handle_front.Goals as goal

pub returns-in-Err-clause-told : goal.returns-in-Err-clause-told
returns-in-Err-clause-told g c = λ start left going.
    without_reading host_kind host_fit start left _ _ _ _ going (content_of c.in-Some.frame) c.in-Some.ensures.frame.0
    (record { held = after_front c.args.reader.now.held; taken = c.args.reader.now.taken }) c.in-Some.ensures.frame.1 refl
    _ c.in-Err.ensures.reading

pub returns-in-Err-handle-clause-told : goal.returns-in-Err-handle-clause-told
returns-in-Err-handle-clause-told g c = λ start left going.
    let arrival : Arrival = record { frame = content_of c.in-Some.frame; reading = c.in-Ok.reading } in
    let said = c.in-Err-handle.ensures in
    let fault = c.in-Err-handle.fault in
    subst (λ (e : SessionEnd). Session host_kind (Err e) start (record { left = left; given = g.C.Clock.given c.now.new.self; site = g.S.Site.told c.handle.new.site })) (sym c.step_end.ensures)
    (not_handled host_kind host_fit start left _ _ _ _ going (content_of c.in-Some.frame) c.in-Some.ensures.frame.0
    (record { held = after_front c.args.reader.now.held; taken = c.args.reader.now.taken }) c.in-Some.ensures.frame.1 refl
    arrival refl (record { sound = c.in-Some.ensures.frame.0; timed = subst IsMoment c.get-minutes.ensures.value c.get-minutes.ensures.range }) (g.C.Clock.given c.now.new.self) c.in-Ok.ensures.reading
    fault c.handle.new.self (g.S.Site.told c.handle.new.site) said.node said.room
    (said_at host_kind (Err fault) arrival c.args.node.now c.handle.new.self (g.S.Site.told c.args.site.now) (g.S.Site.told c.handle.new.site) said.calls said.sent said.moments))

pub returns-in-Err-handle-clause-counted : goal.returns-in-Err-handle-clause-counted
returns-in-Err-handle-clause-counted g c =
    goes_as _ Counted (g.S.Site.told c.args.site.now) (g.S.Site.told c.handle.new.site)
    (λ x y calls. (step_grown {X = HostOutcome} host_rules _ _ _ (Err c.in-Err-handle.fault) x y calls).counted) c.in-Err-handle.ensures.calls

pub returns-clause-told : goal.returns-clause-told
returns-clause-told g c = λ start left going.
    let arrival : Arrival = record { frame = content_of c.in-Some.frame; reading = c.in-Ok.reading } in
    let said = c.in-Ok-handle.ensures in
    handled host_kind host_fit start left _ _ _ _ going (content_of c.in-Some.frame) c.in-Some.ensures.frame.0
    c.hand_out.new.self (c.in-Some.ensures.frame.1 ∙ ap (λ (l : List ℕ). frame_bytes (content_of c.in-Some.frame) ++ l) (sym c.hand_out.ensures.held)) c.hand_out.ensures.taken
    arrival refl (record { sound = c.in-Some.ensures.frame.0; timed = subst IsMoment c.get-minutes.ensures.value c.get-minutes.ensures.range }) (g.C.Clock.given c.now.new.self) c.in-Ok.ensures.reading
    c.in-Ok-handle.field-0 c.handle.new.self (g.S.Site.told c.handle.new.site) said.node
    (said_at host_kind (Ok c.in-Ok-handle.field-0) arrival c.args.node.now c.handle.new.self (g.S.Site.told c.args.site.now) (g.S.Site.told c.handle.new.site) said.calls said.sent said.moments)

pub returns-clause-counted : goal.returns-clause-counted
returns-clause-counted g c =
    goes_as _ Counted (g.S.Site.told c.args.site.now) (g.S.Site.told c.handle.new.site)
    (λ x y calls. (step_grown {X = HostOutcome} host_rules _ _ _ (Ok c.in-Ok-handle.field-0) x y calls).counted) c.in-Ok-handle.ensures.calls
