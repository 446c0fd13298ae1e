use Rattle.std.proofs.Common.{◌∙◌, sym, true, false}
use Rattle.faim_base.specs.declared.ids.Stamp.{Stamp}
use Rattle.faim_base.proofs.ReadLemmas.{read_stamp_is}
use Rattle.faim_base.proofs.ids.stamp_in.Goals as goal

pub returns-then-is_stamp : goal.returns-then-is_stamp
returns-then-is_stamp c =
    let s : Stamp = record { month = c.in_ok-digits.field-0; day = c.in_ok-digits-2.field-0; hour = c.in_ok-digits-3.field-0; minute = c.in_ok-digits-4.field-0 } in
    read_stamp_is c.args.text.now s true c.requires c.in_ok-digits.ensures.value c.in_ok-digits-2.ensures.value c.in_ok-digits-3.ensures.value c.in_ok-digits-4.ensures.value (sym c.if-is_stamp.true ∙ c.is_stamp.ensures)

pub returns-else-is_stamp : goal.returns-else-is_stamp
returns-else-is_stamp c =
    let s : Stamp = record { month = c.in_ok-digits.field-0; day = c.in_ok-digits-2.field-0; hour = c.in_ok-digits-3.field-0; minute = c.in_ok-digits-4.field-0 } in
    read_stamp_is c.args.text.now s false c.requires c.in_ok-digits.ensures.value c.in_ok-digits-2.ensures.value c.in_ok-digits-3.ensures.value c.in_ok-digits-4.ensures.value (sym c.if-is_stamp.false ∙ c.is_stamp.ensures)
