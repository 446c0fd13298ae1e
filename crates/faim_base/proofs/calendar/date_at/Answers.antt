use Rattle.std.proofs.Common.{pos, ◌∙◌, ap, arith}
use Rattle.faim_base.proofs.EpochLemmas.{civil_of_is, counted_from_1970}
use Rattle.faim_base.proofs.calendar.date_at.Goals as goal

pub returns : goal.returns
returns c =
    let date = c.unwrap.result in
    let number = counted_from_1970 c.from.result c.from-2.result c.args.day (c.from.ensures ∙ ap pos c.get.ensures.value) c.from-2.ensures (omega (arith, c.get.ensures.range, c.get.ensures.value)) in
    let found = rw c.unwrap.ensures at c.from_unix_epoch_day.ensures.value in
    let is = civil_of_is date.year date.month date.day c.args.day (date.year_in, date.month_in, date.day_in) (found ∙ number) in
    record { year = is.0; month = is.1; day = is.2; in_calendar = is.3 }
