use Rattle.std.proofs.Common.{◌≡◌, ◌++◌, ap, refl, subst, sym, ◌∙◌, Option}
use Rattle.std.specs.Prelude.{IfOk, OnOk}
use Rattle.host_ledger.specs.declared.entries.Entry.{Entry}
use Rattle.link_frames.specs.Frames.{content_of}
use Rattle.link_frames.specs.declared.frame.FrameKind.{FrameKind}
use Rattle.faim_model.specs.Steps.{HostStep, position_in}
use Rattle.faim_model.specs.Turns.{adds_to}
use Rattle.host_node.specs.Preparing.{bytes_sent, told}
use Rattle.host_node.proofs.StepSides.{is_strange, newest_timed, none_added, none_sent, on_ok, retrieval_adds, retrieves, rolls, submits}
use Rattle.host_node.proofs.preparing.answer.Goals as goal

pub retrieve-requires : goal.retrieve-requires
retrieve-requires c =
    newest_timed c.args.state.now.entries c.args.reading c.get-minutes.result c.get-minutes.ensures.range (c.get-minutes.ensures.value ∙ c.effective.ensures)

pub returns-in-Submit-clause-told : goal.returns-in-Submit-clause-told
returns-in-Submit-clause-told c =
    let s = c.args.state.now in
    let step = submits s.config s.entries (content_of c.args.frame.now) c.args.reading c.endpoint-line.result c.endpoint-line.ensures c.in-Submit.is in
    subst (λ (x : HostStep). IfOk c.submit.result (λ p. p ≡ told x)) step c.submit.ensures.told

pub returns-in-Submit-clause-entries : goal.returns-in-Submit-clause-entries
returns-in-Submit-clause-entries c =
    let s = c.args.state.now in
    let step = submits s.config s.entries (content_of c.args.frame.now) c.args.reading c.endpoint-line.result c.endpoint-line.ensures c.in-Submit.is in
    subst (λ (x : HostStep). OnOk c.submit.result (c.submit.new.state.entries ≡ adds_to x.adds s.entries)) step c.submit.ensures.entries

pub returns-in-Submit-clause-frames : goal.returns-in-Submit-clause-frames
returns-in-Submit-clause-frames c =
    let s = c.args.state.now in
    let step = submits s.config s.entries (content_of c.args.frame.now) c.args.reading c.endpoint-line.result c.endpoint-line.ensures c.in-Submit.is in
    subst (λ (x : HostStep). OnOk c.submit.result (c.submit.new.outbox ≡ c.args.outbox.now ++ bytes_sent x)) step c.submit.ensures.frames

pub returns-in-Retrieve-clause-told : goal.returns-in-Retrieve-clause-told
returns-in-Retrieve-clause-told c =
    let s = c.args.state.now in
    let step = retrieves s.config s.entries (content_of c.args.frame.now) c.args.reading c.endpoint-line.result c.endpoint-line.ensures c.in-Retrieve.is in
    subst (λ (x : HostStep). IfOk c.retrieve.result (λ p. p ≡ told x)) step c.retrieve.ensures.told

pub returns-in-Retrieve-clause-entries : goal.returns-in-Retrieve-clause-entries
returns-in-Retrieve-clause-entries c =
    let s = c.args.state.now in
    let step = retrieves s.config s.entries (content_of c.args.frame.now) c.args.reading c.endpoint-line.result c.endpoint-line.ensures c.in-Retrieve.is in
    on_ok c.retrieve.result _
    (sym (ap (λ (o : Option Entry). adds_to o s.entries) (retrieval_adds s.config s.entries c.endpoint-line.result (position_in (content_of c.args.frame.now).payload)))
    ∙ ap (λ (x : HostStep). adds_to x.adds s.entries) step)

pub returns-in-Retrieve-clause-frames : goal.returns-in-Retrieve-clause-frames
returns-in-Retrieve-clause-frames c =
    let s = c.args.state.now in
    let step = retrieves s.config s.entries (content_of c.args.frame.now) c.args.reading c.endpoint-line.result c.endpoint-line.ensures c.in-Retrieve.is in
    subst (λ (x : HostStep). OnOk c.retrieve.result (c.retrieve.new.outbox ≡ c.args.outbox.now ++ bytes_sent x)) step c.retrieve.ensures.frames

pub returns-in-Roll-clause-told : goal.returns-in-Roll-clause-told
returns-in-Roll-clause-told c =
    let s = c.args.state.now in
    let step = rolls s.config s.entries (content_of c.args.frame.now) c.args.reading c.endpoint-line.result c.endpoint-line.ensures c.in-Roll.is in
    subst (λ (x : HostStep). IfOk c.roll.result (λ p. p ≡ told x)) step c.roll.ensures.told

pub returns-in-Roll-clause-entries : goal.returns-in-Roll-clause-entries
returns-in-Roll-clause-entries c =
    let s = c.args.state.now in
    let step = rolls s.config s.entries (content_of c.args.frame.now) c.args.reading c.endpoint-line.result c.endpoint-line.ensures c.in-Roll.is in
    subst (λ (x : HostStep). OnOk c.roll.result (c.roll.new.state.entries ≡ adds_to x.adds s.entries)) step c.roll.ensures.entries

pub returns-in-Roll-clause-frames : goal.returns-in-Roll-clause-frames
returns-in-Roll-clause-frames c =
    let s = c.args.state.now in
    let step = rolls s.config s.entries (content_of c.args.frame.now) c.args.reading c.endpoint-line.result c.endpoint-line.ensures c.in-Roll.is in
    subst (λ (x : HostStep). OnOk c.roll.result (c.roll.new.outbox ≡ c.args.outbox.now ++ bytes_sent x)) step c.roll.ensures.frames

pub returns-in-Ack-clause-told : goal.returns-in-Ack-clause-told
returns-in-Ack-clause-told c =
    let s = c.args.state.now in
    let step = is_strange s.config s.entries (content_of c.args.frame.now) c.args.reading FrameKind.Ack c.in-Ack.is refl in
    c.nothing.ensures ∙ ap told (sym step)

pub returns-in-Ack-clause-entries : goal.returns-in-Ack-clause-entries
returns-in-Ack-clause-entries c =
    let s = c.args.state.now in
    let step = is_strange s.config s.entries (content_of c.args.frame.now) c.args.reading FrameKind.Ack c.in-Ack.is refl in
    none_added s.entries _ step

pub returns-in-Ack-clause-frames : goal.returns-in-Ack-clause-frames
returns-in-Ack-clause-frames c =
    let s = c.args.state.now in
    let step = is_strange s.config s.entries (content_of c.args.frame.now) c.args.reading FrameKind.Ack c.in-Ack.is refl in
    none_sent c.args.outbox.now _ step

pub returns-in-Output-clause-told : goal.returns-in-Output-clause-told
returns-in-Output-clause-told c =
    let s = c.args.state.now in
    let step = is_strange s.config s.entries (content_of c.args.frame.now) c.args.reading FrameKind.Output c.in-Output.is refl in
    c.nothing-in-Output.ensures ∙ ap told (sym step)

pub returns-in-Output-clause-entries : goal.returns-in-Output-clause-entries
returns-in-Output-clause-entries c =
    let s = c.args.state.now in
    let step = is_strange s.config s.entries (content_of c.args.frame.now) c.args.reading FrameKind.Output c.in-Output.is refl in
    none_added s.entries _ step

pub returns-in-Output-clause-frames : goal.returns-in-Output-clause-frames
returns-in-Output-clause-frames c =
    let s = c.args.state.now in
    let step = is_strange s.config s.entries (content_of c.args.frame.now) c.args.reading FrameKind.Output c.in-Output.is refl in
    none_sent c.args.outbox.now _ step

pub returns-in-Draft-clause-told : goal.returns-in-Draft-clause-told
returns-in-Draft-clause-told c =
    let s = c.args.state.now in
    let step = is_strange s.config s.entries (content_of c.args.frame.now) c.args.reading FrameKind.Draft c.in-Draft.is refl in
    c.nothing-in-Draft.ensures ∙ ap told (sym step)

pub returns-in-Draft-clause-entries : goal.returns-in-Draft-clause-entries
returns-in-Draft-clause-entries c =
    let s = c.args.state.now in
    let step = is_strange s.config s.entries (content_of c.args.frame.now) c.args.reading FrameKind.Draft c.in-Draft.is refl in
    none_added s.entries _ step

pub returns-in-Draft-clause-frames : goal.returns-in-Draft-clause-frames
returns-in-Draft-clause-frames c =
    let s = c.args.state.now in
    let step = is_strange s.config s.entries (content_of c.args.frame.now) c.args.reading FrameKind.Draft c.in-Draft.is refl in
    none_sent c.args.outbox.now _ step

pub returns-in-Tick-clause-told : goal.returns-in-Tick-clause-told
returns-in-Tick-clause-told c =
    let s = c.args.state.now in
    let step = is_strange s.config s.entries (content_of c.args.frame.now) c.args.reading FrameKind.Tick c.in-Tick.is refl in
    c.nothing-in-Tick.ensures ∙ ap told (sym step)

pub returns-in-Tick-clause-entries : goal.returns-in-Tick-clause-entries
returns-in-Tick-clause-entries c =
    let s = c.args.state.now in
    let step = is_strange s.config s.entries (content_of c.args.frame.now) c.args.reading FrameKind.Tick c.in-Tick.is refl in
    none_added s.entries _ step

pub returns-in-Tick-clause-frames : goal.returns-in-Tick-clause-frames
returns-in-Tick-clause-frames c =
    let s = c.args.state.now in
    let step = is_strange s.config s.entries (content_of c.args.frame.now) c.args.reading FrameKind.Tick c.in-Tick.is refl in
    none_sent c.args.outbox.now _ step
