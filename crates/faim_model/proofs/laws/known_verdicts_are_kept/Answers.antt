use Rattle.faim_model.proofs.Sound.{known_is_kept, own_text_stands}
use Rattle.faim_model.proofs.laws.known_verdicts_are_kept.Goals as goal

pub returns-clause-kept : goal.returns-clause-kept
returns-clause-kept c = known_is_kept

pub returns-clause-told : goal.returns-clause-told
returns-clause-told c = own_text_stands
