use Rattle.std.proofs.Common.{length, take, filter, ap, arith}
use Rattle.std.proofs.lemmas.List.{length-map, length-take}
use Rattle.faim_model.specs.Outputs.{Item, outputs, is_from}
use Rattle.host_turns.proofs.turns.retrieve.Goals as goal

-- a retrieval gives no more than 64 places
pub overflow_cast-result : goal.overflow_cast-result
overflow_cast-result c =
    let all = filter (is_from c.args.at) (outputs c.args.state.now.config c.args.state.now.entries c.args.line) in
    omega (arith, ap length c.in_ok-places.ensures, length-map (take 64 all) (λ (i : Item). i.place), length-take 64 all, ap length c.as_slice.ensures)
