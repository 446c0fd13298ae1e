use Rattle.faim_message.proofs.PartialLemmas.{tag_reads}
use Rattle.faim_message.proofs.partial.MessagePart.read_tag.Goals as goal

pub returns-in-Some-clause-goes : goal.returns-in-Some-clause-goes
returns-in-Some-clause-goes c form s h =
    tag_reads c.args.self.now form c.in-Some.tag c.args.bytes.now c.in-Some.length s h (c.in-Some.ensures.tag form) (λ none. let wrong = c.in-Some.ensures.none none in absurd cc)
