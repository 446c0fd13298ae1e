use Rattle.std.proofs.Common.{Some, ap, sym, ◌∙◌}
use Rattle.faim_model.specs.declared.decisions.Decision.{Decision}
use Rattle.faim_model.specs.Verdicts.{answer_of}
use Rattle.faim_model.specs.Turns.{answered}
use Rattle.host_turns.proofs.turns.post.Goals as goal

pub push-requires : goal.push-requires
push-requires c =
    let m = c.args.message in
    c.requires c.posted.result (ap (λ (d : Decision). (answered c.args.state.now.entries c.args.moment m.head m.body m.mark (answer_of d)).adds) (sym c.decision_on-decision.ensures ∙ c.in-New.is) ∙ ap Some (sym c.posted.ensures))

pub returns-in-Known-clause-outcome : goal.returns-in-Known-clause-outcome
returns-in-Known-clause-outcome c =
    let m = c.args.message in
    c.told_again.ensures ∙ sym (ap (λ (d : Decision). (answered c.args.state.now.entries c.args.moment m.head m.body m.mark (answer_of d)).outcome) (sym c.decision_on-decision.ensures ∙ c.in-Known.is))

pub returns-in-Differs-clause-outcome : goal.returns-in-Differs-clause-outcome
returns-in-Differs-clause-outcome c =
    let m = c.args.message in
    c.turned.ensures ∙ sym (ap (λ (d : Decision). (answered c.args.state.now.entries c.args.moment m.head m.body m.mark (answer_of d)).outcome) (sym c.decision_on-decision.ensures ∙ c.in-Differs.is))

pub returns-in-WrongSource-clause-outcome : goal.returns-in-WrongSource-clause-outcome
returns-in-WrongSource-clause-outcome c =
    let m = c.args.message in
    c.turned-in-WrongSource.ensures ∙ sym (ap (λ (d : Decision). (answered c.args.state.now.entries c.args.moment m.head m.body m.mark (answer_of d)).outcome) (sym c.decision_on-decision.ensures ∙ c.in-WrongSource.is))
