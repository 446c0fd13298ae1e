use Rattle.faim_model.proofs.Recorded.{kept_recorded, turned_unrecorded}
use Rattle.faim_model.proofs.laws.kept_refusals_are_recorded.Goals as goal

pub returns-clause-kept : goal.returns-clause-kept
returns-clause-kept c = kept_recorded

pub returns-clause-turned : goal.returns-clause-turned
returns-clause-turned c = turned_unrecorded
