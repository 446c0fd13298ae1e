use Rattle.std.proofs.Common.{ℕ, List, sym, ap, ◌∙◌}
use Rattle.std.specs.Prelude.{nat_eq}
use Rattle.std.specs.List.{starts_with}
use Rattle.faim_tags.proofs.NumberLemmas.{at_among, numbers_more, numbers_one}
use Rattle.faim_tags.proofs.number.first_with.Goals as goal

pub returns-then-starts_with-clause-found : goal.returns-then-starts_with-clause-found
returns-then-starts_with-clause-found c =
    let front = c.args.front.now in (
      at_among c.args.numbers.now c.loop-number.number-index c.loop-number-test.true,
      ap (λ (t : List ℕ). starts_with nat_eq t front) (sym c.braced.ensures) ∙ sym c.starts_with.ensures.value ∙ c.if-starts_with.true,
    )

pub returns-then-starts_with-clause-any : goal.returns-then-starts_with-clause-any
returns-then-starts_with-clause-any c =
    let front = c.args.front.now in
    let begins = ap (λ (t : List ℕ). starts_with nat_eq t front) (sym c.braced.ensures) ∙ sym c.starts_with.ensures.value ∙ c.if-starts_with.true in
    sym (sym c.loop-number.invariant ∙ numbers_one c.args.numbers.now c.loop-number.number-index front c.loop-number-test.true begins)

pub loop-number-preserved : goal.loop-number-preserved
loop-number-preserved c =
    let front = c.args.front.now in
    let other = ap (λ (t : List ℕ). starts_with nat_eq t front) (sym c.braced.ensures) ∙ sym c.starts_with.ensures.value ∙ c.if-starts_with.false in
    sym (numbers_more c.args.numbers.now c.loop-number.number-index front c.loop-number-test.true other) ∙ c.loop-number.invariant
