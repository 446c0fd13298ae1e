use Rattle.std.proofs.Common.{List, ◌∷◌, ◌++◌, subst}
use Rattle.host_ledger.specs.declared.entries.Entry.{Entry}
use Rattle.host_batches.specs.Groups.{arrivals_in}
use Rattle.host_batches.proofs.Joining.{AllFollow, all_follow, few_added, group_covered, group_in_calendar, group_lawful, group_spelled, one_follows}
use Rattle.host_batches.proofs.laws.groups_stay_sound.Goals as goal

pub returns-clause-few : goal.returns-clause-few
returns-clause-few c = few_added

pub returns-clause-lawful : goal.returns-clause-lawful
returns-clause-lawful c = group_lawful

pub returns-clause-follows : goal.returns-clause-follows
returns-clause-follows c config es g later older x are =
    one_follows config es later older x (subst (AllFollow config es) are (all_follow config es (arrivals_in g)))

pub returns-clause-spelled : goal.returns-clause-spelled
returns-clause-spelled c = group_spelled

pub returns-clause-in_calendar : goal.returns-clause-in_calendar
returns-clause-in_calendar c = group_in_calendar

pub returns-clause-covered : goal.returns-clause-covered
returns-clause-covered c = group_covered
