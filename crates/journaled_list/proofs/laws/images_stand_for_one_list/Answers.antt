use Rattle.journaled_list.proofs.Images.{once_only, lawful, last}
use Rattle.journaled_list.proofs.laws.images_stand_for_one_list.Goals as goal

pub returns-clause-once : goal.returns-clause-once
returns-clause-once g c = once_only g.L.Journaled.rules (g.met.L.Journaled.read_once)

pub returns-clause-lawful : goal.returns-clause-lawful
returns-clause-lawful g c = lawful g.L.Journaled.rules

pub returns-clause-last : goal.returns-clause-last
returns-clause-last g c = last g.L.Journaled.rules
