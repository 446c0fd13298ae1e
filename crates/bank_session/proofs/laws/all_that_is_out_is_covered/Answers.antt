use Rattle.bank_session.proofs.CoveredOut.{covered_everywhere, none_covered}
use Rattle.bank_session.proofs.laws.all_that_is_out_is_covered.Goals as goal

pub returns-clause-at_first : goal.returns-clause-at_first
returns-clause-at_first c = none_covered

pub returns-clause-at_each_moment : goal.returns-clause-at_each_moment
returns-clause-at_each_moment c = covered_everywhere c.images_stand_for_one_list.ensures.once
