use Rattle.std.proofs.Common.{◌≡◌, ℕ, List, get_or, subst, sym}
use Rattle.faim_tags.specs.Layouts.{classes}
use Rattle.faim_tags.specs.Spelling.{Tag, IsTag}
use Rattle.faim_message.proofs.Duplication.{IsTag-set}
use Rattle.faim_message.proofs.message.set_byte.Goals as goal

pub invariant_of-tag : goal.invariant_of-tag
invariant_of-tag c =
    let P : Tag → Type 0 = λ v. get_or (classes v.no) c.args.place 0 ≡ 116 in
    let tag : Tag = record { no = c.tag.inside.no; fixed = c.tag.inside.fixed; stars = c.tag.inside.stars; closed = c.tag.inside.closed } in
    let Q : List ℕ → Type 0 = λ fixed. IsTag (record { no = tag.no; fixed = fixed; stars = tag.stars; closed = tag.closed }) in
    subst Q (sym c.set.ensures) (IsTag-set tag c.args.place c.args.byte c.tag.invariant (subst P (sym c.tag.view_is) c.requires.class) c.requires.text)
