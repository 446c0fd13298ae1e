use Rattle.std.proofs.Common.{◌≡◌, ℕ, get_or, sym, subst}
use Rattle.faim_tags.specs.Layouts.{classes}
use Rattle.faim_tags.specs.Spelling.{Tag}
use Rattle.faim_message.specs.Spelling.{mark_place}
use Rattle.faim_message.proofs.Duplication.{takes_mark}
use Rattle.faim_message.proofs.message.set_mark_in.Goals as goal

pub set_byte-requires-clause-class : goal.set_byte-requires-clause-class
set_byte-requires-clause-class c =
    let tag = c.index_mut.result.now in
    let P : ℕ → Type 0 = λ n. get_or (classes tag.no) n 0 ≡ 116 in
    let Q : Tag → Type 0 = λ v. get_or (classes v.no) (mark_place c.args.form) 0 ≡ 116 in
    subst P (sym c.mark_place.ensures) (subst Q (sym c.index_mut.ensures.value) (takes_mark c.args.form c.args.tags.now.items tag c.requires.sound))
