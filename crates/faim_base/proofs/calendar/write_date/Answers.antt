use Rattle.std.proofs.Common.{◌≡◌, ℕ, ◌∙◌, length, length-append, ap, arith}
use Rattle.std.proofs.lemmas.List.{length-take, length-drop}
use Rattle.faim_base.specs.Calendar.{date_text, civil_of}
use Rattle.faim_base.specs.Digits.{padded}
use Rattle.faim_base.proofs.DigitLemmas.{padded_as, length-padded}
use Rattle.faim_base.proofs.EpochLemmas.{year_number}
use Rattle.faim_base.proofs.PartLemmas.{three_parts}
use Rattle.faim_base.proofs.calendar.write_date.Goals as goal

pub returns : goal.returns
unfolding date_text
returns c =
    let date = civil_of c.args.day in
    let is = c.date_at-date.ensures in
    let year = year_number c.date_at-date.result.year date.year date.month date.day is.year is.in_calendar in
    let a : c.padded.new.text ≡ padded 4 date.year = padded_as _ _ _ 4 date.year c.padded.ensures (omega (arith, length-take 4 c.args.text.now)) (c.from.ensures ∙ c.unsigned_abs.ensures.value ∙ year) in
    let a_length : length c.padded.new.text ≡ 4 = ap length a ∙ length-padded 4 date.year in
    let b : c.padded-2.new.text ≡ padded 2 date.month = padded_as _ _ _ 2 date.month c.padded-2.ensures (omega (arith, length-take {A = ℕ}, length-drop {A = ℕ}, length-append {A = ℕ})) (c.from-2.ensures ∙ is.month) in
    let b_length : length c.padded-2.new.text ≡ 2 = ap length b ∙ length-padded 2 date.month in
    let d : c.padded-3.new.text ≡ padded 2 date.day = padded_as _ _ _ 2 date.day c.padded-3.ensures (omega (arith, length-take {A = ℕ}, length-drop {A = ℕ}, length-append {A = ℕ})) (c.from-3.ensures ∙ is.day) in
    let written = three_parts c.args.text.now c.padded.new.text c.padded-2.new.text c.padded-3.new.text 4 2 6 2 a_length b_length (omega arith) (omega arith) in
    written ∙ cc
