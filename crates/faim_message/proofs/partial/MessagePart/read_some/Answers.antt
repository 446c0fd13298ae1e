use Rattle.std.proofs.Common.{Bool, get_or, subst, arith}
use Rattle.faim_message.specs.Partial.{Follows}
use Rattle.faim_message.proofs.PartialLemmas.{past_goes, moves_on, moves_off}
use Rattle.faim_message.specs.Stages.{next}
use Rattle.faim_message.proofs.partial.MessagePart.read_some.Goals as goal

pub returns-then-step_past-clause-goes : goal.returns-then-step_past-clause-goes
returns-then-step_past-clause-goes c form s h =
    let bytes = c.args.bytes.now in
    let k = c.read_tag-length.result in
    moves_on c.read_tag-length.new.self c.step_past.new.self form s bytes k (omega (arith, c.read_tag-length.ensures.within)) (c.read_tag-length.ensures.goes form s h) (λ t stands past.
    let P : Bool → Type 0 = λ on. Follows c.step_past.new.self form on (next form t (get_or bytes k 0)) in
    subst P c.if-step_past.true (past_goes c.read_tag-length.new.self c.step_past.new.self form c.step_past.result (get_or bytes k 0) (c.step_past.ensures.tag form) (c.step_past.ensures.returned form) t stands past))

pub returns-else-step_past-clause-goes : goal.returns-else-step_past-clause-goes
returns-else-step_past-clause-goes c form s h =
    let bytes = c.args.bytes.now in
    let k = c.read_tag-length.result in
    moves_off c.read_tag-length.new.self c.step_past.new.self form s bytes k (omega (arith, c.read_tag-length.ensures.within)) (c.read_tag-length.ensures.goes form s h) (λ t stands past.
    let P : Bool → Type 0 = λ on. Follows c.step_past.new.self form on (next form t (get_or bytes k 0)) in
    subst P c.if-step_past.false (past_goes c.read_tag-length.new.self c.step_past.new.self form c.step_past.result (get_or bytes k 0) (c.step_past.ensures.tag form) (c.step_past.ensures.returned form) t stands past))
