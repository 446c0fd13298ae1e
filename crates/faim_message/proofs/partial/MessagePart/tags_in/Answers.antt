use Rattle.faim_message.specs.Partial.{form_of}
use Rattle.faim_message.proofs.PartialLemmas.{whole_there, ends_there}
use Rattle.faim_message.proofs.partial.MessagePart.tags_in.Goals as goal

pub cut_tags-requires : goal.cut_tags-requires
cut_tags-requires c =
    let form = form_of c.args.self.now in
    let s = c.requires.stage in
    let at = c.in-Some.ensures form s c.requires.stands in
    (form, whole_there form c.args.bytes.now s c.requires.run at.0)

pub returns-in-Ok : goal.returns-in-Ok
returns-in-Ok c =
    let form = form_of c.args.self.now in
    let s = c.requires.stage in
    let at = c.in-Some.ensures form s c.requires.stands in
    ends_there form c.args.bytes.now s c.in-Ok.tags.items c.in-Some.breaks c.requires.run at.0 at.1 (c.in-Ok.ensures form)
