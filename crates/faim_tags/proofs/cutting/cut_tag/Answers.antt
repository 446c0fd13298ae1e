use Rattle.std.proofs.Common.{◌≡◌, ℕ, ◌-◌, true, length, sym, ap, subst, ◌∙◌, arith}
use Rattle.std.proofs.lemmas.List.{length-drop}
use Rattle.faim_base.specs.Tags.{is_tag_number}
use Rattle.faim_tags.proofs.CutLemmas.{after_number, number_told, elements_told}
use Rattle.faim_tags.proofs.cutting.cut_tag.Goals as goal

pub number_in-requires : goal.number_in-requires
number_in-requires c =
    let a = after_number c.requires.numbers c.args.bytes.now c.requires.tag c.requires.size c.requires.found in
    omega (arith, a.six, a.within, ap length c.after.ensures, length-drop 1 c.args.bytes.now)

pub known-no-requires : goal.known-no-requires
known-no-requires c =
    let f = c.requires.found in
    let same = number_told c.requires.numbers c.args.bytes.now c.after.result.now c.requires.tag c.requires.size c.number_in.result f c.after.ensures c.number_in.ensures in
    let P : ℕ → Type 0 = λ m. is_tag_number m ≡ true in
    subst P (sym same) f.tag.sound.listed

pub after-requires-2 : goal.after-requires-2
after-requires-2 c =
    let a = after_number c.requires.numbers c.args.bytes.now c.requires.tag c.requires.size c.requires.found in
    omega (arith, a.six, a.within)

pub cut_elements-requires-clause-there : goal.cut_elements-requires-clause-there
cut_elements-requires-clause-there c =
    let f = c.requires.found in
    let same = c.known-no.ensures ∙ number_told c.requires.numbers c.args.bytes.now c.after.result.now c.requires.tag c.requires.size c.number_in.result f c.after.ensures c.number_in.ensures in
    (c.requires.numbers, (c.requires.tag, (c.requires.size - 6, elements_told c.requires.numbers c.args.bytes.now c.after-2.result.now c.requires.tag c.requires.size c.known-no.result f same c.after-2.ensures)))

pub overflow_add-result : goal.overflow_add-result
overflow_add-result c =
    let f = c.requires.found in
    let a = after_number c.requires.numbers c.args.bytes.now c.requires.tag c.requires.size f in
    let same = c.known-no.ensures ∙ number_told c.requires.numbers c.args.bytes.now c.after.result.now c.requires.tag c.requires.size c.number_in.result f c.after.ensures c.number_in.ensures in
    let is = c.in-Ok.ensures c.requires.numbers c.requires.tag (c.requires.size - 6) (elements_told c.requires.numbers c.args.bytes.now c.after-2.result.now c.requires.tag c.requires.size c.known-no.result f same c.after-2.ensures) in
    omega (arith, is.1, a.six, a.within)

pub returns-in-Ok : goal.returns-in-Ok
returns-in-Ok c ns v n f =
    let a = after_number ns c.args.bytes.now v n f in
    let same = c.known-no.ensures ∙ number_told ns c.args.bytes.now c.after.result.now v n c.number_in.result f c.after.ensures c.number_in.ensures in
    let is = c.in-Ok.ensures ns v (n - 6) (elements_told ns c.args.bytes.now c.after-2.result.now v n c.known-no.result f same c.after-2.ensures) in
    (is.0, omega (arith, is.1, a.six))
