use Rattle.std.proofs.Common.{List, sym, subst}
use Rattle.faim_tags.specs.Spelling.{Tag}
use Rattle.faim_message.specs.Spelling.{IsMessage}
use Rattle.faim_message.proofs.Duplication.{IsMessage-marked}
use Rattle.faim_message.proofs.message.Message.set_mark.Goals as goal

pub invariant_of-self : goal.invariant_of-self
invariant_of-self c =
    let m = c.self.inside in
    let P : List Tag → Type 0 = λ tags. IsMessage (record { form = m.form; breaks = m.breaks; tags = tags }) in
    subst P (sym c.set_mark_in.ensures) (IsMessage-marked (record { form = m.form; breaks = m.breaks; tags = m.tags.items }) c.args.mark c.self.invariant c.requires)
