use Rattle.journaled_list.proofs.Images.{whole, stands_header, headed, one_place, stands_or_not}
use Rattle.journaled_list.proofs.laws.lists_are_damaged_once.Goals as goal

pub returns-clause-whole : goal.returns-clause-whole
returns-clause-whole g c = whole g.L.Journaled.rules

pub returns-clause-header : goal.returns-clause-header
returns-clause-header g c = stands_header g.L.Journaled.rules

pub returns-clause-damaged_header : goal.returns-clause-damaged_header
returns-clause-damaged_header g c = headed g.L.Journaled.rules

pub returns-clause-one_place : goal.returns-clause-one_place
returns-clause-one_place g c = one_place g.L.Journaled.rules

pub returns-clause-either : goal.returns-clause-either
returns-clause-either g c = λ decided image bytes begins. stands_or_not g.L.Journaled.rules image (c.other_images_are_damaged.ensures decided image bytes begins)
