use Rattle.std.proofs.Common.{length, sym, ◌∙◌, arith}
use Rattle.std.proofs.lemmas.Bool.{eqb-true}
use Rattle.faim_tags.proofs.RunLemmas.{no_brace, none_begins}
use Rattle.faim_tags.proofs.partial.first_number.Goals as goal
use Rattle.faim_tags.proofs.partial.first_number.Goals.{then-b-ne123-via-then-b-ne123, then-b-ne123-via-else-b-ne123+then-is_empty}

pub returns-then-b-ne123 : goal.returns-then-b-ne123
returns-then-b-ne123 c =
    elim c.then-b-ne123.branch [
      | then-b-ne123-via-then-b-ne123 w ↦ no_brace c.args.numbers.now c.args.b (λ is. omega arith)
      | then-b-ne123-via-else-b-ne123+then-is_empty w ↦ none_begins c.args.numbers.now c.args.b (eqb-true (length c.args.numbers.now) 0 (sym w.is_empty.ensures ∙ w.if-is_empty.true))
    ]
