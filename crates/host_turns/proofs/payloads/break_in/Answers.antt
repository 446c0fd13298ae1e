use Rattle.std.proofs.Common.{◌≡◌, ◌∙◌, sym, get_or}
use Rattle.faim_message.specs.declared.form.Form.TheVariants.{Input}
use Rattle.host_turns.proofs.BreakBytes.{cr_lf_there, goes_on, lf_there, nothing_there}
use Rattle.host_turns.proofs.payloads.break_in.Goals as goal

pub returns-then-next-eq10 : goal.returns-then-next-eq10
returns-then-next-eq10 c m read =
    let s = (c.decoded_is_spelled.ensures.found Input c.args.body.now m).0 read in
    let lf : get_or c.args.body.now 18 0 ≡ 10 = c.if-next-eq10.true in
    lf_there m.breaks (sym (goes_on m c.args.body.now s.0 s.1).byte ∙ lf)

pub returns-then-next-eq13 : goal.returns-then-next-eq13
returns-then-next-eq13 c m read =
    let s = (c.decoded_is_spelled.ensures.found Input c.args.body.now m).0 read in
    let cr : get_or c.args.body.now 18 0 ≡ 13 = c.if-next-eq13.true in
    cr_lf_there m.breaks (sym (goes_on m c.args.body.now s.0 s.1).byte ∙ cr)

pub returns-else-next-eq13 : goal.returns-else-next-eq13
returns-else-next-eq13 c m read =
    let s = (c.decoded_is_spelled.ensures.found Input c.args.body.now m).0 read in
    let at = (goes_on m c.args.body.now s.0 s.1).byte in
    nothing_there m.breaks (λ lf. c.if-next-eq10.false (at ∙ lf)) (λ cr. c.if-next-eq13.false (at ∙ cr))
