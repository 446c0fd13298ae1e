use Rattle.std.proofs.Common.{◌≡◌, ◌++◌, ◌==◌, ap, subst, sym, ◌∙◌}
use Rattle.std.specs.Prelude.{IfOk, OnOk}
use Rattle.host_ledger.specs.declared.entries.Entry.TheVariants.{Posted}
use Rattle.faim_model.specs.declared.decisions.Decision.{Decision}
use Rattle.faim_model.specs.Steps.{HostStep}
use Rattle.faim_model.specs.Turns.{adds_to, answered}
use Rattle.faim_model.specs.Verdicts.{answer_of}
use Rattle.host_node.specs.Preparing.{bytes_sent, told}
use Rattle.host_node.proofs.StepSides.{differs_step, foreign_step, known_step, new_step, on_ok}
use Rattle.host_node.proofs.submitting.post.Goals as goal

pub post_new-requires : goal.post_new-requires
post_new-requires c =
    let m = c.args.message in
    c.requires (Posted m.head m.body (m.mark == 80) c.args.moment c.in-New.verdict)
    (ap (λ (d : Decision). (answered c.args.state.now.entries c.args.moment m.head m.body m.mark (answer_of d)).adds) (sym c.decision_on-decision.ensures ∙ c.in-New.is))

pub returns-in-New-clause-told : goal.returns-in-New-clause-told
returns-in-New-clause-told c =
    let s = c.args.state.now in
    let m = c.args.message in
    let step = new_step s.config s.entries c.args.line c.args.moment m.head m.body m.mark m.failed c.in-New.verdict (sym c.decision_on-decision.ensures ∙ c.in-New.is) in
    subst (λ (x : HostStep). IfOk c.post_new.result (λ p. p ≡ told x)) step c.post_new.ensures.told

pub returns-in-New-clause-entries : goal.returns-in-New-clause-entries
returns-in-New-clause-entries c =
    let s = c.args.state.now in
    let m = c.args.message in
    let step = new_step s.config s.entries c.args.line c.args.moment m.head m.body m.mark m.failed c.in-New.verdict (sym c.decision_on-decision.ensures ∙ c.in-New.is) in
    subst (λ (x : HostStep). OnOk c.post_new.result (c.post_new.new.state.entries ≡ adds_to x.adds s.entries)) step c.post_new.ensures.entries

pub returns-in-New-clause-frames : goal.returns-in-New-clause-frames
returns-in-New-clause-frames c =
    let s = c.args.state.now in
    let m = c.args.message in
    let step = new_step s.config s.entries c.args.line c.args.moment m.head m.body m.mark m.failed c.in-New.verdict (sym c.decision_on-decision.ensures ∙ c.in-New.is) in
    subst (λ (x : HostStep). OnOk c.post_new.result (c.post_new.new.outbox ≡ c.args.outbox.now ++ bytes_sent x)) step c.post_new.ensures.frames

pub returns-in-Known-clause-told : goal.returns-in-Known-clause-told
returns-in-Known-clause-told c =
    let s = c.args.state.now in
    let m = c.args.message in
    let step = known_step s.config s.entries c.args.line c.args.moment m.head m.body m.mark m.failed c.in-Known.place (sym c.decision_on-decision.ensures ∙ c.in-Known.is) in
    subst (λ (x : HostStep). IfOk c.tell_again.result (λ p. p ≡ told x)) step c.tell_again.ensures.told

pub returns-in-Known-clause-entries : goal.returns-in-Known-clause-entries
returns-in-Known-clause-entries c =
    let s = c.args.state.now in
    let m = c.args.message in
    let step = known_step s.config s.entries c.args.line c.args.moment m.head m.body m.mark m.failed c.in-Known.place (sym c.decision_on-decision.ensures ∙ c.in-Known.is) in
    on_ok c.tell_again.result _ (ap (λ (x : HostStep). adds_to x.adds s.entries) step)

pub returns-in-Known-clause-frames : goal.returns-in-Known-clause-frames
returns-in-Known-clause-frames c =
    let s = c.args.state.now in
    let m = c.args.message in
    let step = known_step s.config s.entries c.args.line c.args.moment m.head m.body m.mark m.failed c.in-Known.place (sym c.decision_on-decision.ensures ∙ c.in-Known.is) in
    subst (λ (x : HostStep). OnOk c.tell_again.result (c.tell_again.new.outbox ≡ c.args.outbox.now ++ bytes_sent x)) step c.tell_again.ensures.frames

pub returns-in-Differs-clause-told : goal.returns-in-Differs-clause-told
returns-in-Differs-clause-told c =
    let s = c.args.state.now in
    let m = c.args.message in
    let step = differs_step s.config s.entries c.args.line c.args.moment m.head m.body m.mark m.failed c.in-Differs.field-0 (sym c.decision_on-decision.ensures ∙ c.in-Differs.is) in
    subst (λ (x : HostStep). IfOk c.turn_back.result (λ p. p ≡ told x)) step c.turn_back.ensures.told

pub returns-in-Differs-clause-entries : goal.returns-in-Differs-clause-entries
returns-in-Differs-clause-entries c =
    let s = c.args.state.now in
    let m = c.args.message in
    let step = differs_step s.config s.entries c.args.line c.args.moment m.head m.body m.mark m.failed c.in-Differs.field-0 (sym c.decision_on-decision.ensures ∙ c.in-Differs.is) in
    on_ok c.turn_back.result _ (ap (λ (x : HostStep). adds_to x.adds s.entries) step)

pub returns-in-Differs-clause-frames : goal.returns-in-Differs-clause-frames
returns-in-Differs-clause-frames c =
    let s = c.args.state.now in
    let m = c.args.message in
    let step = differs_step s.config s.entries c.args.line c.args.moment m.head m.body m.mark m.failed c.in-Differs.field-0 (sym c.decision_on-decision.ensures ∙ c.in-Differs.is) in
    subst (λ (x : HostStep). OnOk c.turn_back.result (c.turn_back.new.outbox ≡ c.args.outbox.now ++ bytes_sent x)) step c.turn_back.ensures.frames

pub returns-in-WrongSource-clause-told : goal.returns-in-WrongSource-clause-told
returns-in-WrongSource-clause-told c =
    let s = c.args.state.now in
    let m = c.args.message in
    let step = foreign_step s.config s.entries c.args.line c.args.moment m.head m.body m.mark m.failed (sym c.decision_on-decision.ensures ∙ c.in-WrongSource.is) in
    subst (λ (x : HostStep). IfOk c.turn_back-in-WrongSource.result (λ p. p ≡ told x)) step c.turn_back-in-WrongSource.ensures.told

pub returns-in-WrongSource-clause-entries : goal.returns-in-WrongSource-clause-entries
returns-in-WrongSource-clause-entries c =
    let s = c.args.state.now in
    let m = c.args.message in
    let step = foreign_step s.config s.entries c.args.line c.args.moment m.head m.body m.mark m.failed (sym c.decision_on-decision.ensures ∙ c.in-WrongSource.is) in
    on_ok c.turn_back-in-WrongSource.result _ (ap (λ (x : HostStep). adds_to x.adds s.entries) step)

pub returns-in-WrongSource-clause-frames : goal.returns-in-WrongSource-clause-frames
returns-in-WrongSource-clause-frames c =
    let s = c.args.state.now in
    let m = c.args.message in
    let step = foreign_step s.config s.entries c.args.line c.args.moment m.head m.body m.mark m.failed (sym c.decision_on-decision.ensures ∙ c.in-WrongSource.is) in
    subst (λ (x : HostStep). OnOk c.turn_back-in-WrongSource.result (c.turn_back-in-WrongSource.new.outbox ≡ c.args.outbox.now ++ bytes_sent x)) step c.turn_back-in-WrongSource.ensures.frames
