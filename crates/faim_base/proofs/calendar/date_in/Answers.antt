use Rattle.std.proofs.Common.{◌∙◌}
use Rattle.faim_base.proofs.ReadLemmas.{read_date_is}
use Rattle.faim_base.proofs.calendar.date_in.Goals as goal

pub returns : goal.returns
returns c = c.day_of.ensures ∙ read_date_is c.args.text.now c.in_ok-year.year c.in_ok-month.month c.in_ok-day.day c.requires c.in_ok-year.ensures.value c.in_ok-month.ensures.value c.in_ok-day.ensures.value
