use Rattle.faim_message.proofs.PartialLemmas.{tag_goes, tag_past, past_goes}
use Rattle.faim_message.proofs.partial.MessagePart.read_byte_apart.Goals as goal

pub returns-in-Some-clause-goes : goal.returns-in-Some-clause-goes
returns-in-Some-clause-goes c form s h =
    tag_goes c.args.self.now form c.in-Some.tag c.args.b (c.in-Some.ensures.tag form) (λ none. let wrong = c.in-Some.ensures.none none in absurd cc) s h

pub returns-in-None-clause-goes : goal.returns-in-None-clause-goes
returns-in-None-clause-goes c form s h =
    past_goes c.args.self.now c.step_past_alone.new.self form c.step_past_alone.result c.args.b (c.step_past_alone.ensures.tag form) (c.step_past_alone.ensures.returned form) s h (tag_past c.args.self.now form c.args.b (c.in-None.ensures.tag form) s h)
