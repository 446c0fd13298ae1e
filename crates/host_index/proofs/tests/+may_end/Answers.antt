use Rattle.std.proofs.Common.{◌≡◌, ◌-◌, ◌∙◌, sym, subst, true, refl, length, take, drop}
use Rattle.std.proofs.lemmas.Bool.{and_from}
use Rattle.host_index.specs.Index.{Index, are_above}
use Rattle.host_index.proofs.Asked.{nothing_found, first_and_rest, first_then_others}
use Rattle.host_index.proofs.tests.+may_end.Goals as goal

pub add_roll-requires : goal.add_roll-requires
add_roll-requires t c =
    let end = c.index-ends-0.result in
    record { above = and_from _ _ (nothing_found end.0 end.1 c.args.index.now.outputs c.in_ok-from.field-0 c.as_slice-2.result.now c.in_ok-from.ensures c.as_slice-2.ensures (sym c.is_empty-2.ensures ∙ c.if-not-is_empty.false)) refl }

pub returns-clause-above : goal.returns-clause-above
returns-clause-above t c = λ may.
    let end = c.index-ends-0.result in
    let free = nothing_found end.0 end.1 c.args.index.now.outputs c.in_ok-from.field-0 c.as_slice-2.result.now c.in_ok-from.ensures c.as_slice-2.ensures (sym c.is_empty-2.ensures ∙ c.if-not-is_empty.false) in
    first_then_others c.args.place c.args.ends.now (take (length c.args.ends.now - 1) (drop 1 c.args.ends.now)) end c.args.index.now.outputs
    (first_and_rest c.args.ends.now end (sym c.is_empty.ensures ∙ c.if-is_empty.false) (sym c.index-ends-0.is)) free (subst (λ (i : Index). are_above c.args.place (take (length c.args.ends.now - 1) (drop 1 c.args.ends.now)) i.outputs ≡ true) c.in_ok-add_roll.ensures.ok (c.in_ok-may.ensures.above may))
