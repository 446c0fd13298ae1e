use Rattle.std.proofs.Common.{subst}
use Rattle.faim_base.specs.Numbers.{IsMoment}
use Rattle.host_node.proofs.StepSides.{turned_fits}
use Rattle.host_node.proofs.submitting.turn_away.Goals as goal

pub send_turned-requires-clause-fits : goal.send_turned-requires-clause-fits
send_turned-requires-clause-fits c =
    let timed : IsMoment c.args.moment = subst IsMoment c.get-minutes.ensures.value c.get-minutes.ensures.range in
    turned_fits c.args.state.now.config c.args.why c.args.imad c.args.moment c.args.line c.config-config.ensures.sound c.requires.away c.requires.identified
    c.requires.sound timed c.is_named.ensures
