use Rattle.std.proofs.Common.{◌≡◌, true, List, ℕ, sym, subst}
use Rattle.faim_tags.specs.Layouts.{classes}
use Rattle.faim_tags.specs.Spelling.{fill}
use Rattle.faim_message.proofs.ImadText.{imad_fills}
use Rattle.faim_message.proofs.numbering.imad_text.Goals as goal

pub returns-clause-filled : goal.returns-clause-filled
returns-clause-filled c =
    let P : List ℕ → Type 0 = λ bytes. fill (classes 1520) bytes ≡ true in
    subst P (sym c.write.ensures.text) (imad_fills c.args.imad.now c.write.ensures.source.0 c.write.ensures.source.1)
