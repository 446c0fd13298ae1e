use Rattle.std.proofs.Common.{sym, ◌∙◌}
use Rattle.faim_message.proofs.Numbered.{found_place, no_place}
use Rattle.faim_message.proofs.numbering.place_after.Goals as goal

pub returns-in-Some-clause-place : goal.returns-in-Some-clause-place
returns-in-Some-clause-place c t = found_place c.args.number c.in-Some.place t c.args.tags.now (sym c.position_of.ensures ∙ c.in-Some.is)

pub returns-in-None-clause-place : goal.returns-in-None-clause-place
returns-in-None-clause-place c t = no_place c.args.number t c.args.tags.now (sym c.position_of.ensures ∙ c.in-None.is)
