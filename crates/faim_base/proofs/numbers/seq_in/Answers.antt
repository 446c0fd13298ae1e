use Rattle.std.proofs.Common.{◌∙◌, arith}
use Rattle.faim_base.proofs.ReadLemmas.{Spells-from_read, Spells_lt, read_seq_is}
use Rattle.faim_base.proofs.numbers.seq_in.Goals as goal

pub overflow_cast-branch : goal.overflow_cast-branch
overflow_cast-branch c =
    let small = Spells_lt c.args.text.now c.in_ok-digits.field-0 6 (Spells-from_read c.args.text.now c.in_ok-digits.field-0 c.in_ok-digits.ensures.value) c.requires in
    omega arith

pub returns : goal.returns
returns c = c.new.ensures ∙ read_seq_is c.args.text.now c.in_ok-digits.field-0 c.requires c.in_ok-digits.ensures.value
