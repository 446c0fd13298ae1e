use Rattle.std.proofs.Common.{◌≡◌, false, [], ◌∙◌, ap}
use Rattle.faim_base.specs.declared.judgement.Verdict.TheVariants.{Taken}
use Rattle.host_ledger.specs.declared.config.Config.{Config}
use Rattle.host_ledger.specs.declared.entries.Entry.TheVariants.{Posted}
use Rattle.host_core.specs.State.{State}
use Rattle.host_core.proofs.Payment.{day, follows_as, first, text}
use Rattle.host_core.proofs.tests.opened.Goals as goal

pub returns : goal.returns
returns c =
    let grown = c.in_ok-extend.ensures.ok in
    let empty = c.new-body.ensures in
    let seen = c.body.view_is in
    let body : c.body.inside.items.items ≡ text = cc (grown, empty, seen) in
    let begun : c.in_ok-state.state ≡ record { config = c.in_ok-config.field-0; entries = [] } = c.in_ok-state.ensures in
    let state : c.in_ok-state.state ≡ record { config = day; entries = [] } = begun ∙ ap (λ (k : Config). let s : State = record { config = k; entries = [] } in s) c.in_ok-config.ensures.value in
    let paid = c.in_ok-payment.ensures in
    let when = c.in_ok-moment.ensures in
    let line = c.in_ok-bank.ensures in
    let one = c.in_ok-number.ensures in
    let entry : Posted c.in_ok-payment.field-0 c.body.inside.items.items false c.in_ok-moment.field-0 (Taken c.in_ok-bank.field-0 c.in_ok-number.field-0) ≡ first = cc (body, paid, when, line, one) in
    follows_as c.in_ok-state.state (Posted c.in_ok-payment.field-0 c.body.inside.items.items false c.in_ok-moment.field-0 (Taken c.in_ok-bank.field-0 c.in_ok-number.field-0)) state entry
