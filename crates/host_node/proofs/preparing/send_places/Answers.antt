use Rattle.std.proofs.Common.{ℕ, get_or}
use Rattle.host_node.specs.Resending.{output_to}
use Rattle.host_node.proofs.GivenAgain.{in_places, one_place}
use Rattle.host_node.proofs.preparing.send_places.Goals as goal

pub send_output-requires-clause-given : goal.send_output-requires-clause-given
send_output-requires-clause-given c =
    let places = c.args.places.now in
    let number = c.loop-number.number in
    c.requires.given (get_or places number 0) (in_places places number c.loop-number-test.true)

pub send_output-requires-clause-fits : goal.send_output-requires-clause-fits
send_output-requires-clause-fits c =
    let places = c.args.places.now in
    let number = c.loop-number.number in
    c.requires.fits (get_or places number 0) (in_places places number c.loop-number-test.true)

pub loop-number-preserved : goal.loop-number-preserved
loop-number-preserved c =
    let s = c.args.state.now in
    one_place (λ (place : ℕ). output_to s.config s.entries place 82 c.args.line) c.args.outbox.now c.loop-number.outbox c.send_output.new.outbox
    c.args.places.now c.loop-number.number c.loop-number-test.true c.loop-number.invariant c.in-Ok.ensures
