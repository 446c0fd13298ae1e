use Rattle.std.proofs.Common.{◌≡◌, ap, sym, ◌∙◌, subst}
use Rattle.std.specs.Prelude.{IfOk, OnOk}
use Rattle.host_ledger.specs.declared.config.Config.{Config}
use Rattle.faim_model.specs.Turns.{HostTurn, adds_to}
use Rattle.host_turns.proofs.NumberedTurns.{numbered_turn}
use Rattle.host_turns.proofs.turns.submit.Goals as goal

pub post-requires : goal.post-requires
post-requires c =
    let s = c.args.state.now in
    let turn = numbered_turn s.config s.entries c.args.line c.args.reading c.effective-moment.result c.config-config.result.now.env c.args.text.now c.in_ok-submission.submission c.in-Numbered.message c.in-Numbered.is c.in_ok-submission.ensures (ap (λ (k : Config). k.env) c.config-config.ensures.value) c.effective-moment.ensures in
    λ x adds. c.turn_follows.ensures s.config s.entries c.args.line c.args.reading c.args.text.now x (sym (ap (λ (t : HostTurn). t.adds) turn) ∙ adds)

pub returns-clause-outcome : goal.returns-clause-outcome
returns-clause-outcome c =
    let s = c.args.state.now in
    let turn = numbered_turn s.config s.entries c.args.line c.args.reading c.effective-moment.result c.config-config.result.now.env c.args.text.now c.in_ok-submission.submission c.in-Numbered.message c.in-Numbered.is c.in_ok-submission.ensures (ap (λ (k : Config). k.env) c.config-config.ensures.value) c.effective-moment.ensures in
    subst (λ (t : HostTurn). IfOk c.post.result (λ x. x ≡ t.outcome)) turn c.post.ensures.outcome

pub returns-clause-entries : goal.returns-clause-entries
returns-clause-entries c =
    let s = c.args.state.now in
    let turn = numbered_turn s.config s.entries c.args.line c.args.reading c.effective-moment.result c.config-config.result.now.env c.args.text.now c.in_ok-submission.submission c.in-Numbered.message c.in-Numbered.is c.in_ok-submission.ensures (ap (λ (k : Config). k.env) c.config-config.ensures.value) c.effective-moment.ensures in
    subst (λ (t : HostTurn). OnOk c.post.result (c.post.new.state.entries ≡ adds_to t.adds s.entries)) turn c.post.ensures.entries
