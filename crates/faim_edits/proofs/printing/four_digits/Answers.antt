use Rattle.std.proofs.Common.{◌≡◌, ◌∙◌, ap}
use Rattle.faim_base.specs.Digits.{padded}
use Rattle.faim_edits.proofs.Widths.{last_four}
use Rattle.faim_edits.proofs.printing.four_digits.Goals as goal

pub returns : goal.returns
returns c = c.padded.ensures ∙ ap (padded 4) c.from.ensures ∙ last_four c.args.kind
