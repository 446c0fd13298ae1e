-- Whole runs of a safe world, and the acknowledgements that were sent in it.
use Rattle.std.proofs.Common.{sym, subst, ℕ, List, [], ◌∷◌}
use Rattle.std.specs.List.{AllByRecursion, Contains}
use Rattle.std.proofs.lemmas.List.Elements.{Contains-append_left}
use Rattle.faim_base.specs.declared.judgement.Verdict.{Verdict}
use Rattle.faim_message.specs.Spelling.{Content}
use Rattle.link_frames.specs.Frames.{Content as Frame}
use Rattle.faim_model.specs.Readings.{Acknowledges}
use Rattle.faim_model.proofs.Outside.{told_is_kept}
use Rattle.world_events.specs.declared.acts.Event.{Event}
use Rattle.world_events.specs.declared.outcomes.Outcome.{Outcome}
use Rattle.world_model.specs.Worlds.{World}
use Rattle.world_events.specs.Allowed.{IsEvent}
use Rattle.world_model.specs.Safety.{Safe}
use Rattle.world_model.specs.Runs.{Run}
use Rattle.world_model.specs.Promises.{IsSentAck}
use Rattle.world_model.proofs.Growing.{run_grows, step_grows}
use Rattle.world_model.proofs.Keeping.{step_safe}

pub run_safe : (w last : World) (events : List Event) (xs : List Outcome) → Safe w → AllByRecursion (IsEvent w.banks) events → Run w events xs last → Safe last
run_safe w last [] [] s each run = subst Safe (sym run) s
run_safe w last [] (x ∷ xs) s each run = absurd run
run_safe w last (event ∷ events) [] s each run = absurd run
run_safe w last (event ∷ events) (x ∷ xs) s each run =
    let banks = (step_grows w run.0 event x run.1).banks in
    run_safe run.0 last events xs (step_safe w run.0 event x s each.0 run.1)
    (subst (λ (b : List (List ℕ)). AllByRecursion (IsEvent b) events) (sym banks) each.1) run.2

pub sent_acks_stand : (w last : World) (events : List Event) (xs : List Outcome) (f : Frame) (m : Content) (v : Verdict)
    → Safe w → AllByRecursion (IsEvent w.banks) events → Run w events xs last → IsSentAck w f m v → Acknowledges last.config last.entries v f m
sent_acks_stand w last events xs f m v s each run ack =
    let grown = run_grows w last events xs run in
    let safe = run_safe w last events xs s each run in
    let there : Contains last.from_host f = subst (λ (l : List Frame). Contains l f) (sym grown.from_host.1) (Contains-append_left w.from_host grown.from_host.0 f ack.sent) in
    told_is_kept last.config last.entries safe.values.config safe.lawful safe.values.newest f m v (safe.covered f there) ack.kind ack.read ack.tells
