use Rattle.faim_model.proofs.Turned.{again_turn, recorded_turn, turned_turn}
use Rattle.faim_model.proofs.laws.turns_tell_verdicts.Goals as goal

pub returns-clause-recorded : goal.returns-clause-recorded
returns-clause-recorded c = recorded_turn

pub returns-clause-known : goal.returns-clause-known
returns-clause-known c = again_turn

pub returns-clause-turned : goal.returns-clause-turned
returns-clause-turned c = turned_turn
