use Rattle.host_batches.specs.Groups.{arrivals_in, group_step}
use Rattle.host_batches.proofs.Told.{nothing_added, recent_sent_again, sent_of_all}
use Rattle.host_batches.proofs.laws.groups_are_told.Goals as goal

pub returns-clause-first : goal.returns-clause-first
returns-clause-first c config es g = sent_of_all config es (arrivals_in g)

pub returns-clause-again : goal.returns-clause-again
returns-clause-again c config es r g = recent_sent_again config es r (group_step config es g).adds

pub returns-clause-kept : goal.returns-clause-kept
returns-clause-kept c config es r g = nothing_added config es r (group_step config es g).adds
