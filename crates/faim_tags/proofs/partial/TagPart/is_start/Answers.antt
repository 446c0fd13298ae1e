use Rattle.faim_tags.proofs.PartialLemmas.{start_is}
use Rattle.faim_tags.proofs.partial.TagPart.is_start.Goals as goal

pub returns-in-Number : goal.returns-in-Number
returns-in-Number c numbers = start_is numbers c.args.self.now c.in-Number.like c.in-Number.count c.in-Number.is
