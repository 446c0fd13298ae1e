use Rattle.std.proofs.Common.{◌≡◌, true, List, ap, get_or, subst, ◌∙◌}
use Rattle.host_ledger.specs.declared.config.Account.{Account}
use Rattle.host_ledger.specs.declared.config.Config.{Config}
use Rattle.host_ledger.specs.Accounts.{has_endpoint}
use Rattle.host_node.specs.Resending.{output_to}
use Rattle.host_node.proofs.AtPlaces.{end_given}
use Rattle.host_node.proofs.CycleFrames.{one_sent, own_served}
use Rattle.host_node.proofs.resending.send_ends.Goals as goal

pub send_end-requires-clause-given : goal.send_end-requires-clause-given
send_end-requires-clause-given c =
    let s = c.args.state.now in
    let accounts = c.as_slice-accounts.result.now in
    let e = (get_or accounts c.loop-number.number c.index-accounts-number.result).endpoint in
    let are : accounts ≡ s.config.accounts = c.as_slice-accounts.ensures ∙ ap (λ (k : Config). k.accounts) c.config.ensures.value in
    end_given s.config s.entries c.args.place c.requires.rolls.0 c.requires.rolls.1 e c.requires.rolls.2
    (subst (λ (l : List Account). has_endpoint l e ≡ true) are (own_served accounts c.loop-number.number c.index-accounts-number.result c.loop-number-test.true))

pub send_end-requires-clause-fits : goal.send_end-requires-clause-fits
send_end-requires-clause-fits c =
    let s = c.args.state.now in
    let accounts = c.as_slice-accounts.result.now in
    let e = (get_or accounts c.loop-number.number c.index-accounts-number.result).endpoint in
    let are : accounts ≡ s.config.accounts = c.as_slice-accounts.ensures ∙ ap (λ (k : Config). k.accounts) c.config.ensures.value in
    c.requires.fits e
    (end_given s.config s.entries c.args.place c.requires.rolls.0 c.requires.rolls.1 e c.requires.rolls.2
    (subst (λ (l : List Account). has_endpoint l e ≡ true) are (own_served accounts c.loop-number.number c.index-accounts-number.result c.loop-number-test.true)))

pub loop-number-preserved : goal.loop-number-preserved
loop-number-preserved c =
    let s = c.args.state.now in
    let accounts = c.as_slice-accounts.result.now in
    let number = c.loop-number.number in
    one_sent (output_to s.config s.entries c.args.place c.args.mark) c.args.outbox.now c.loop-number.outbox c.send_end.new.outbox accounts number
    (get_or accounts number c.index-accounts-number.result) c.loop-number-test.true
    (ap (λ (a : Account). get_or accounts number a) c.index-accounts-number.is) c.loop-number.invariant c.in-Ok.ensures
