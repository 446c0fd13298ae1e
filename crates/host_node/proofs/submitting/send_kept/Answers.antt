use Rattle.std.proofs.Common.{Some, ap, inr, refl, subst, sym, ◌∙◌}
use Rattle.faim_base.specs.Numbers.{IsMoment}
use Rattle.host_ledger.specs.declared.entries.Entry.TheVariants.{Posted}
use Rattle.host_node.proofs.AtPlaces.{ack_fits}
use Rattle.host_node.proofs.submitting.send_kept.Goals as goal

pub send_ack-requires-clause-fits : goal.send_ack-requires-clause-fits
send_ack-requires-clause-fits c =
    let s = c.args.state.now in
    let p = c.in-Some-Posted in
    let timed : IsMoment p.moment = subst IsMoment c.get-minutes.ensures.value c.get-minutes.ensures.range in
    ack_fits s.config s.entries c.args.place 80 (Posted p.head p.field-0-1 p.field-0-2 p.moment p.field-0-4) c.config-config.ensures.sound
    c.config-config.ensures.lawful timed (inr refl) (sym p.ensures ∙ ap Some p.field-0-is) _ refl
