use Rattle.host_session.proofs.NothingMissed.{has_first_frames, missed_in_the_end, missed_nowhere, none_at_first}
use Rattle.host_session.proofs.laws.nothing_is_missed.Goals as goal

pub returns-clause-at_each_moment : goal.returns-clause-at_each_moment
returns-clause-at_each_moment c = missed_nowhere c.images_stand_for_one_list.ensures.lawful c.images_stand_for_one_list.ensures.once

pub returns-clause-in_the_end : goal.returns-clause-in_the_end
returns-clause-in_the_end c = missed_in_the_end

pub returns-clause-at_first : goal.returns-clause-at_first
returns-clause-at_first c = none_at_first

pub returns-clause-each_entry : goal.returns-clause-each_entry
returns-clause-each_entry c = has_first_frames
