use Rattle.std.proofs.Common.{◌≡◌, ◌↔◌, ◌<◌, Bool, sym, subst, Ok, Err}
use Rattle.framed_input.specs.declared.ends.InputEnd.TheVariants.{TooLong}
use Rattle.framed_input.specs.Limits.{greatest_input}
use Rattle.framed_input.specs.Taking.{Answers}
use Rattle.line_sessions.specs.declared.ends.SessionEnd.{SessionEnd}
use Rattle.node_session.specs.Serving.{Session}
use Rattle.node_session.proofs.LaterEnds.{step_ends_later}
use Rattle.host_session.specs.HostKind.{host_kind}
use Rattle.node_session.proofs.InputEnded.{advanced, came_as, came_to_end, no_frame}
use Rattle.host_session.proofs.serving.take_next.Goals as goal

pub returns-in-Ok-clause-told : goal.returns-in-Ok-clause-told
returns-in-Ok-clause-told g c = λ start going.
    c.in-Ok.ensures.told start (g.I.Source.left c.advance.new.input) (advanced host_kind start _ _ _ _ _ _ _ going c.advance.ensures.takes c.advance.ensures.most)

pub returns-in-Err-handle_front-clause-told : goal.returns-in-Err-handle_front-clause-told
returns-in-Err-handle_front-clause-told g c = λ start going.
    c.in-Err-handle_front.ensures.told start (g.I.Source.left c.advance.new.input) (advanced host_kind start _ _ _ _ _ _ _ going c.advance.ensures.takes c.advance.ensures.most)

pub returns-in-Ok-false-clause-told : goal.returns-in-Ok-false-clause-told
returns-in-Ok-false-clause-told g c = λ start going.
    came_to_end host_kind start _ _ _ _ _ (advanced host_kind start _ _ _ _ _ _ _ going c.advance.ensures.takes c.advance.ensures.most)
    (subst (λ (b : Bool). Answers (Ok b) c.advance.new.self.held (g.I.Source.left c.advance.new.input)) c.in-Ok-false.field-0-test c.in-Ok-false.ensures.answer)
    (subst (λ (b : Bool). (came_as b ≡ Err TooLong) ↔ (greatest_input < c.advance.new.self.taken)) c.in-Ok-false.field-0-test c.in-Ok-false.ensures.too_long)
    c.advance.ensures.most

pub returns-in-Err-clause-told : goal.returns-in-Err-clause-told
returns-in-Err-clause-told g c = λ start going.
    subst (λ (e : SessionEnd). Session host_kind (Err e) start (record { left = g.I.Source.left c.advance.new.input; given = g.C.Clock.given c.args.clock.now; site = g.S.Site.told c.args.site.now })) (sym c.input_end.ensures)
    (no_frame host_kind start _ _ _ _ _ (advanced host_kind start _ _ _ _ _ _ _ going c.advance.ensures.takes c.advance.ensures.most) c.in-Err.end c.in-Err.ensures.answer c.in-Err.ensures.too_long c.advance.ensures.most)

pub returns-in-Err-handle_front-clause-never : goal.returns-in-Err-handle_front-clause-never
returns-in-Err-handle_front-clause-never g c = step_ends_later c.in-Err-handle_front.end c.in-Err-handle_front.ensures.never
