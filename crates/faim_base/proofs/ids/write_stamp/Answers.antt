use Rattle.std.proofs.Common.{◌≡◌, ℕ, ◌∙◌, ap, length, length-append, arith}
use Rattle.std.proofs.lemmas.List.{length-take, length-drop}
use Rattle.faim_base.specs.Digits.{padded}
use Rattle.faim_base.proofs.DigitLemmas.{padded_as, length-padded}
use Rattle.faim_base.proofs.PartLemmas.{four_parts}
use Rattle.faim_base.proofs.ids.write_stamp.Goals as goal

pub returns : goal.returns
returns c =
    let stamp = c.args.stamp.now in
    let month : c.padded.new.text ≡ padded 2 stamp.month = padded_as _ _ _ 2 _ c.padded.ensures (omega (arith, length-take {A = ℕ})) c.from.ensures in
    let month_length = ap length month ∙ length-padded 2 stamp.month in
    let day : c.padded-2.new.text ≡ padded 2 stamp.day = padded_as _ _ _ 2 _ c.padded-2.ensures (omega (arith, length-take {A = ℕ}, length-drop {A = ℕ}, length-append {A = ℕ})) c.from-2.ensures in
    let day_length = ap length day ∙ length-padded 2 stamp.day in
    let hour : c.padded-3.new.text ≡ padded 2 stamp.hour = padded_as _ _ _ 2 _ c.padded-3.ensures (omega (arith, length-take {A = ℕ}, length-drop {A = ℕ}, length-append {A = ℕ})) c.from-3.ensures in
    let hour_length = ap length hour ∙ length-padded 2 stamp.hour in
    let minute : c.padded-4.new.text ≡ padded 2 stamp.minute = padded_as _ _ _ 2 _ c.padded-4.ensures (omega (arith, length-take {A = ℕ}, length-drop {A = ℕ}, length-append {A = ℕ})) c.from-4.ensures in
    four_parts c.args.text.now c.padded.new.text c.padded-2.new.text c.padded-3.new.text c.padded-4.new.text 2 2 4 2 6 2 month_length day_length hour_length (omega arith) (omega arith) (omega arith) ∙ cc
