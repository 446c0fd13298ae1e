use Rattle.std.proofs.Common.{ℕ, sym, ap, ◌∙◌, arith}
use Rattle.std.proofs.lemmas.Bool.{ne_eqb}
use Rattle.faim_tags.specs.Parts.{text_length}
use Rattle.faim_tags.proofs.Counts.{run_other}
use Rattle.faim_tags.proofs.classes.run_of.Goals as goal

pub returns-else-class-eq110 : goal.returns-else-class-eq110
returns-else-class-eq110 c =
    c.run_of_text.ensures ∙ ap (λ (j : ℕ). text_length j c.args.bytes.now) c.from-else-class-eq110.ensures ∙ sym (run_other c.args.class c.args.most c.args.bytes.now (ne_eqb c.args.class 110 (λ is. omega arith)))
