use Rattle.std.proofs.Common.{◌≡◌, ℕ, ◌∙◌, length, length-append, ap, sym, rules, arith}
use Rattle.std.proofs.lemmas.List.{length-take, length-drop}
use Rattle.faim_base.specs.Digits.{padded}
use Rattle.faim_base.proofs.DigitLemmas.{padded_as}
use Rattle.faim_base.proofs.PartLemmas.{three_parts}
use Rattle.faim_base.proofs.ids.Imad.write.Goals as goal

pub returns-clause-text : goal.returns-clause-text
returns-clause-text c =
    let date_length : length c.write_date.new.text ≡ 8 = omega (arith, length-take {A = ℕ}) in
    let source_length : length c.copy_from_slice.new.self ≡ 8 = omega (arith, length-take {A = ℕ}, length-drop {A = ℕ}, length-append {A = ℕ}) in
    let seq : c.padded.new.text ≡ padded 6 c.args.self.now.seq = padded_as _ _ _ 6 _ c.padded.ensures (omega (arith, length-take {A = ℕ}, length-drop {A = ℕ}, length-append {A = ℕ})) (c.from.ensures ∙ c.get.ensures.value) in
    let source = c.copy_from_slice.ensures.after ∙ c.bytes.ensures.value in
    three_parts c.args.text.now c.write_date.new.text c.copy_from_slice.new.self c.padded.new.text 8 8 16 6 date_length source_length (omega arith) (omega arith) ∙ cc

pub returns-clause-source : goal.returns-clause-source
returns-clause-source c =
    let long : length c.bytes.result ≡ 8 = search rules in
    (ap length (sym c.bytes.ensures.value) ∙ long, c.bytes.ensures.named)
