use Rattle.std.proofs.Common.{◌≡◌, ℕ, ◌∙◌, ap, length, length-append, arith}
use Rattle.std.proofs.lemmas.List.{length-take, length-drop}
use Rattle.faim_base.specs.Digits.{padded}
use Rattle.faim_base.proofs.DigitLemmas.{padded_as, length-padded}
use Rattle.faim_base.proofs.PartLemmas.{five_parts}
use Rattle.faim_base.proofs.ids.Omad.write.Goals as goal

pub returns : goal.returns
returns c =
    let date_length : length c.write_date.new.text ≡ 8 = omega (arith, length-take {A = ℕ}) in
    let dest_length : length c.copy_from_slice.new.self ≡ 8 = omega (arith, length-take {A = ℕ}, length-drop {A = ℕ}, length-append {A = ℕ}) in
    let dest = c.copy_from_slice.ensures.after ∙ c.bytes.ensures.value in
    let seq : c.padded.new.text ≡ padded 6 c.args.self.now.seq = padded_as _ _ _ 6 _ c.padded.ensures (omega (arith, length-take {A = ℕ}, length-drop {A = ℕ}, length-append {A = ℕ})) (c.from.ensures ∙ c.get.ensures.value) in
    let seq_length = ap length seq ∙ length-padded 6 c.args.self.now.seq in
    let stamp_length : length c.write_stamp.new.text ≡ 8 = omega (arith, length-take {A = ℕ}, length-drop {A = ℕ}, length-append {A = ℕ}) in
    let application = c.copy_from_slice-2.ensures.after in
    five_parts c.args.text.now c.write_date.new.text c.copy_from_slice.new.self c.padded.new.text c.write_stamp.new.text c.copy_from_slice-2.new.self 8 8 16 6 22 8 30 4 date_length dest_length seq_length stamp_length (omega arith) (omega arith) (omega arith) (omega arith) ∙ cc
