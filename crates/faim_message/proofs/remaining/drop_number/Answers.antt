use Rattle.std.proofs.Common.{◌<◌, length, ◌∙◌, arith}
use Rattle.faim_message.proofs.RemainingLemmas.{one_out}
use Rattle.faim_message.proofs.remaining.drop_number.Goals as goal

pub returns-clause-kept : goal.returns-clause-kept
returns-clause-kept c =
    let numbers = c.args.numbers.now in
    let e = c.place_of-place.ensures in
    let lt : c.place_of-place.result < length numbers = omega (arith, c.if-numbers-place.false) in
    c.close_gap.ensures ∙ one_out numbers c.place_of-place.result c.args.number lt c.requires.ordered (e.here lt) e.not_before
