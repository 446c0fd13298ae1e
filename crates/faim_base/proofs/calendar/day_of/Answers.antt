use Rattle.std.proofs.Common.{◌∙◌, w8, w16, arith}
use Rattle.std.proofs.lemmas.Int.{to_z_pos}
use Rattle.faim_base.proofs.EpochLemmas.{date_made, counted_from_2000, day_number_bound, date_of_kept}
use Rattle.faim_base.proofs.calendar.day_of.Goals as goal

pub overflow_cast-to_unix_epoch_day : goal.overflow_cast-to_unix_epoch_day
overflow_cast-to_unix_epoch_day c =
    let date = c.in-Ok.date in
    let named = c.in-Ok.ensures.value in
    let year = named.0 ∙ to_z_pos w16 c.args.year (omega arith) in
    let month = named.1 ∙ to_z_pos w8 c.args.month (omega arith) in
    let day = named.2 ∙ to_z_pos w8 c.args.day (omega arith) in
    let made = date_made date.year date.month date.day c.args.year c.args.month c.args.day (date.year_in, date.month_in, date.day_in) year month day c.if-year-lt2000.false in
    let small = day_number_bound c.args.year c.args.month c.args.day made.0 in
    rw (counted_from_2000 c.to_unix_epoch_day.result _ (c.to_unix_epoch_day.ensures.value ∙ made.1) small) (tt, omega arith)

pub returns-in-Ok : goal.returns-in-Ok
returns-in-Ok c =
    let date = c.in-Ok.date in
    let named = c.in-Ok.ensures.value in
    let year = named.0 ∙ to_z_pos w16 c.args.year (omega arith) in
    let month = named.1 ∙ to_z_pos w8 c.args.month (omega arith) in
    let day = named.2 ∙ to_z_pos w8 c.args.day (omega arith) in
    let made = date_made date.year date.month date.day c.args.year c.args.month c.args.day (date.year_in, date.month_in, date.day_in) year month day c.if-year-lt2000.false in
    let small = day_number_bound c.args.year c.args.month c.args.day made.0 in
    let count = counted_from_2000 c.to_unix_epoch_day.result _ (c.to_unix_epoch_day.ensures.value ∙ made.1) small in
    rw count at c.new-in-Ok.ensures ∙ date_of_kept c.args.year c.args.month c.args.day made.0
