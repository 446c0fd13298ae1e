use Rattle.host_index.proofs.Answering.{given, at_most, each_given, first_stay}
use Rattle.host_index.proofs.laws.retrievals_give_the_first.Goals as goal

pub returns-clause-given : goal.returns-clause-given
returns-clause-given c = given

pub returns-clause-most : goal.returns-clause-most
returns-clause-most c = at_most

pub returns-clause-each : goal.returns-clause-each
returns-clause-each c = each_given

pub returns-clause-first : goal.returns-clause-first
returns-clause-first c = first_stay
