use Rattle.std.proofs.Common.{◌≡◌, List, sym, ap, subst, ◌∙◌}
use Rattle.std.specs.List.{insert}
use Rattle.faim_tags.specs.Spelling.{Tag}
use Rattle.faim_message.specs.declared.form.Form.{Form}
use Rattle.faim_message.specs.declared.form.Form.TheVariants.{Input}
use Rattle.faim_message.specs.declared.form.Breaks.{Breaks}
use Rattle.faim_message.specs.Spelling.{IsMessage}
use Rattle.faim_message.specs.Numbering.{put_after}
use Rattle.faim_message.proofs.Numbered.{IsMessage-put}
use Rattle.faim_message.proofs.numbering.with_imad.Goals as goal

pub message_of-requires : goal.message_of-requires
message_of-requires c =
    let m = c.args.m in
    let tag = c.in_ok-tag.tag in
    let P : Form → Type 0 = λ form. IsMessage (record { form = form; breaks = m.breaks; tags = m.tags }) in
    let Q : List Tag → Type 0 = λ tags. IsMessage (record { form = Input; breaks = c.parts_of-breaks.result.0; tags = tags }) in
    let R : Breaks → Type 0 = λ breaks. IsMessage (record { form = Input; breaks = breaks; tags = put_after 1510 tag m.tags }) in
    let number : tag.no ≡ 1520 = ap (λ (v : Tag). v.no) c.in_ok-tag.ensures.value in
    let tags : c.as_slice.result.now ≡ m.tags = c.as_slice.ensures.value ∙ c.parts_of-breaks.ensures.tags in
    let put : c.insert.new.self.items ≡ put_after 1510 tag m.tags =
    c.in_ok-insert.ensures.items ∙ ap (λ (ts : List Tag). insert ts c.place_after-place.result tag) (sym c.as_slice.ensures.value)
    ∙ c.place_after-place.ensures.place tag ∙ ap (put_after 1510 tag) tags in
    subst Q (sym put) (subst R (sym c.parts_of-breaks.ensures.breaks)
    (IsMessage-put m.breaks 1510 tag m.tags number c.in_ok-tag.ensures.sound (subst P c.requires c.parts_of-breaks.ensures.sound)))
