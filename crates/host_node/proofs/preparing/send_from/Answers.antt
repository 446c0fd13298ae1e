use Rattle.std.proofs.Common.{List, ℕ, ◌++◌, filter, ap, arith, ◌∙◌}
use Rattle.std.proofs.lemmas.List.{length-take}
use Rattle.faim_model.specs.Outputs.{is_from, outputs, retrieved}
use Rattle.host_node.proofs.GivenAgain.{all_sent, are_given, as_many}
use Rattle.host_node.proofs.preparing.send_from.Goals as goal

pub send_places-requires : goal.send_places-requires
send_places-requires c =
    let s = c.args.state.now in
    are_given s.config s.entries c.args.line c.args.at c.config-config.ensures.sound c.config-config.ensures.lawful c.requires
    c.as_slice-found.result.now (c.as_slice-found.ensures ∙ c.in_ok-places.ensures)

pub overflow_cast-result : goal.overflow_cast-result
overflow_cast-result c =
    let s = c.args.state.now in
    omega (
      arith,
      as_many (retrieved s.config s.entries c.args.line c.args.at) c.as_slice-found.result.now (c.as_slice-found.ensures ∙ c.in_ok-places.ensures),
      length-take 64 (filter (is_from c.args.at) (outputs s.config s.entries c.args.line)),
    )

pub returns-in-Ok-clause-frames : goal.returns-in-Ok-clause-frames
returns-in-Ok-clause-frames c =
    let s = c.args.state.now in
    c.in-Ok.ensures
    ∙ ap (λ (l : List (List ℕ)). c.args.outbox.now ++ l)
    (all_sent s.config s.entries c.args.line c.args.at c.as_slice-found.result.now (c.as_slice-found.ensures ∙ c.in_ok-places.ensures))
