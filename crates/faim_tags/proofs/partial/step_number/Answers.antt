use Rattle.faim_tags.proofs.PartialLemmas.{number_on}
use Rattle.faim_tags.proofs.partial.step_number.Goals as goal

pub returns-in-Some : goal.returns-in-Some
returns-in-Some c given few is known =
    number_on c.args.numbers.now c.args.like c.args.count c.args.b c.in-Some.no c.with_number.result given (c.in-Some.ensures.next known) (c.with_number.ensures.part c.args.numbers.now) (c.with_number.ensures.whole c.args.numbers.now) is
