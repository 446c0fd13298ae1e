use Rattle.std.proofs.Common.{◌≡◌, ℕ, ◌∙◌, length, length-append, arith}
use Rattle.std.proofs.lemmas.List.{length-take, length-drop}
use Rattle.faim_base.specs.Digits.{padded}
use Rattle.faim_base.proofs.DigitLemmas.{padded_as}
use Rattle.faim_base.proofs.PartLemmas.{put_last}
use Rattle.faim_base.proofs.ids.OutPos.write.Goals as goal

pub returns : goal.returns
returns c =
    let front : length c.write_date.new.text ≡ 8 = omega (arith, length-take {A = ℕ}) in
    let seq : c.padded.new.text ≡ padded 6 c.args.self.now.seq = padded_as _ _ _ 6 _ c.padded.ensures (omega (arith, length-take {A = ℕ}, length-drop {A = ℕ}, length-append {A = ℕ})) (c.from.ensures ∙ c.get.ensures.value) in
    put_last c.args.text.now c.write_date.new.text c.padded.new.text 8 6 front (omega arith) ∙ cc
