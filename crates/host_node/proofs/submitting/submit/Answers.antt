use Rattle.std.proofs.Common.{◌≡◌, ◌++◌, ap, subst, sym, ◌∙◌}
use Rattle.std.specs.Prelude.{IfOk, OnOk}
use Rattle.host_ledger.specs.declared.config.Config.{Config}
use Rattle.host_turns.specs.declared.reading.ReadText.TheVariants as read
use Rattle.faim_model.specs.Steps.{HostStep}
use Rattle.faim_model.specs.Turns.{HostTurn, adds_to}
use Rattle.host_node.specs.Preparing.{bytes_sent, told}
use Rattle.host_turns.proofs.NumberedTurns.{numbered_turn}
use Rattle.host_node.proofs.StepSides.{on_ok, text_step}
use Rattle.host_node.proofs.submitting.submit.Goals as goal

pub post-requires : goal.post-requires
post-requires c =
    let s = c.args.state.now in
    let turn = numbered_turn s.config s.entries c.args.line c.args.reading c.effective-moment.result c.config-config.result.now.env c.args.text.now
    c.in_ok-submission.submission c.in-Numbered.message c.in-Numbered.is c.in_ok-submission.ensures
    (ap (λ (k : Config). k.env) c.config-config.ensures.value) c.effective-moment.ensures in
    λ x adds. c.turn_follows.ensures s.config s.entries c.args.line c.args.reading c.args.text.now x (sym (ap (λ (t : HostTurn). t.adds) turn) ∙ adds)

pub returns-in-Strange-clause-told : goal.returns-in-Strange-clause-told
returns-in-Strange-clause-told c =
    let s = c.args.state.now in
    let step = text_step s.config s.entries c.args.line c.args.reading c.effective-moment.result c.config-config.result.now.env c.args.text.now
    c.in_ok-submission.submission read.Strange c.in-Strange.is c.in_ok-submission.ensures
    (ap (λ (k : Config). k.env) c.config-config.ensures.value) c.effective-moment.ensures in
    subst (λ (x : HostStep). IfOk c.turn_away.result (λ p. p ≡ told x)) step c.turn_away.ensures.told

pub returns-in-Strange-clause-entries : goal.returns-in-Strange-clause-entries
returns-in-Strange-clause-entries c =
    let s = c.args.state.now in
    let step = text_step s.config s.entries c.args.line c.args.reading c.effective-moment.result c.config-config.result.now.env c.args.text.now
    c.in_ok-submission.submission read.Strange c.in-Strange.is c.in_ok-submission.ensures
    (ap (λ (k : Config). k.env) c.config-config.ensures.value) c.effective-moment.ensures in
    on_ok c.turn_away.result _ (ap (λ (x : HostStep). adds_to x.adds s.entries) step)

pub returns-in-Strange-clause-frames : goal.returns-in-Strange-clause-frames
returns-in-Strange-clause-frames c =
    let s = c.args.state.now in
    let step = text_step s.config s.entries c.args.line c.args.reading c.effective-moment.result c.config-config.result.now.env c.args.text.now
    c.in_ok-submission.submission read.Strange c.in-Strange.is c.in_ok-submission.ensures
    (ap (λ (k : Config). k.env) c.config-config.ensures.value) c.effective-moment.ensures in
    subst (λ (x : HostStep). OnOk c.turn_away.result (c.turn_away.new.outbox ≡ c.args.outbox.now ++ bytes_sent x)) step c.turn_away.ensures.frames

pub returns-in-Unnumbered-clause-told : goal.returns-in-Unnumbered-clause-told
returns-in-Unnumbered-clause-told c =
    let s = c.args.state.now in
    let step = text_step s.config s.entries c.args.line c.args.reading c.effective-moment.result c.config-config.result.now.env c.args.text.now
    c.in_ok-submission.submission read.Unnumbered c.in-Unnumbered.is c.in_ok-submission.ensures
    (ap (λ (k : Config). k.env) c.config-config.ensures.value) c.effective-moment.ensures in
    subst (λ (x : HostStep). IfOk c.turn_away-in-Unnumbered.result (λ p. p ≡ told x)) step c.turn_away-in-Unnumbered.ensures.told

pub returns-in-Unnumbered-clause-entries : goal.returns-in-Unnumbered-clause-entries
returns-in-Unnumbered-clause-entries c =
    let s = c.args.state.now in
    let step = text_step s.config s.entries c.args.line c.args.reading c.effective-moment.result c.config-config.result.now.env c.args.text.now
    c.in_ok-submission.submission read.Unnumbered c.in-Unnumbered.is c.in_ok-submission.ensures
    (ap (λ (k : Config). k.env) c.config-config.ensures.value) c.effective-moment.ensures in
    on_ok c.turn_away-in-Unnumbered.result _ (ap (λ (x : HostStep). adds_to x.adds s.entries) step)

pub returns-in-Unnumbered-clause-frames : goal.returns-in-Unnumbered-clause-frames
returns-in-Unnumbered-clause-frames c =
    let s = c.args.state.now in
    let step = text_step s.config s.entries c.args.line c.args.reading c.effective-moment.result c.config-config.result.now.env c.args.text.now
    c.in_ok-submission.submission read.Unnumbered c.in-Unnumbered.is c.in_ok-submission.ensures
    (ap (λ (k : Config). k.env) c.config-config.ensures.value) c.effective-moment.ensures in
    subst (λ (x : HostStep). OnOk c.turn_away-in-Unnumbered.result (c.turn_away-in-Unnumbered.new.outbox ≡ c.args.outbox.now ++ bytes_sent x)) step c.turn_away-in-Unnumbered.ensures.frames

pub returns-clause-told : goal.returns-clause-told
returns-clause-told c =
    let s = c.args.state.now in
    let step = text_step s.config s.entries c.args.line c.args.reading c.effective-moment.result c.config-config.result.now.env c.args.text.now
    c.in_ok-submission.submission (read.Numbered c.in-Numbered.message) c.in-Numbered.is c.in_ok-submission.ensures
    (ap (λ (k : Config). k.env) c.config-config.ensures.value) c.effective-moment.ensures in
    subst (λ (x : HostStep). IfOk c.post.result (λ p. p ≡ told x)) step c.post.ensures.told

pub returns-clause-entries : goal.returns-clause-entries
returns-clause-entries c =
    let s = c.args.state.now in
    let step = text_step s.config s.entries c.args.line c.args.reading c.effective-moment.result c.config-config.result.now.env c.args.text.now
    c.in_ok-submission.submission (read.Numbered c.in-Numbered.message) c.in-Numbered.is c.in_ok-submission.ensures
    (ap (λ (k : Config). k.env) c.config-config.ensures.value) c.effective-moment.ensures in
    subst (λ (x : HostStep). OnOk c.post.result (c.post.new.state.entries ≡ adds_to x.adds s.entries)) step c.post.ensures.entries

pub returns-clause-frames : goal.returns-clause-frames
returns-clause-frames c =
    let s = c.args.state.now in
    let step = text_step s.config s.entries c.args.line c.args.reading c.effective-moment.result c.config-config.result.now.env c.args.text.now
    c.in_ok-submission.submission (read.Numbered c.in-Numbered.message) c.in-Numbered.is c.in_ok-submission.ensures
    (ap (λ (k : Config). k.env) c.config-config.ensures.value) c.effective-moment.ensures in
    subst (λ (x : HostStep). OnOk c.post.result (c.post.new.outbox ≡ c.args.outbox.now ++ bytes_sent x)) step c.post.ensures.frames
