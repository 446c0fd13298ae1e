use Rattle.std.proofs.Common.{arith, sym}
use Rattle.faim_base.specs.Numbers.{IsDay}
use Rattle.host_node.proofs.NextEntries.{rolls_early, rolls_later, rolls_not_later}
use Rattle.host_node.proofs.following.roll_may_follow.Goals as goal

pub returns-then-not-is_in_time : goal.returns-then-not-is_in_time
returns-then-not-is_in_time c = rolls_early c.args.state.now.config c.args.state.now.entries c.args.moment c.args.date c.if-not-is_in_time.ensures

pub returns-in-Later : goal.returns-in-Later
returns-in-Later c =
    let day : IsDay c.args.date = omega arith in
    rolls_later c.args.state.now.config c.args.state.now.entries c.args.moment c.args.date c.if-not-is_in_time.ensures (sym c.in-Later.ensures) day

pub returns-in-NotLater : goal.returns-in-NotLater
returns-in-NotLater c = rolls_not_later c.args.state.now.config c.args.state.now.entries c.args.moment c.args.date _ (sym c.in-NotLater.ensures)
