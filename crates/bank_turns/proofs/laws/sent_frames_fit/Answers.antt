use Rattle.bank_turns.proofs.Sends.{numbered_spells, step_fits}
use Rattle.bank_turns.proofs.laws.sent_frames_fit.Goals as goal

pub returns-clause-fits : goal.returns-clause-fits
returns-clause-fits c o es f g opening lawful short there = step_fits o es opening.endpoint lawful short f g there

pub returns-clause-spelled : goal.returns-clause-spelled
returns-clause-spelled c = numbered_spells
