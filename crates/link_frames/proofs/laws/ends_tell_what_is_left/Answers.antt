use Rattle.link_frames.proofs.Telling.{good_end, cut_end}
use Rattle.link_frames.proofs.laws.ends_tell_what_is_left.Goals as goal

pub returns-clause-good : goal.returns-clause-good
returns-clause-good c = good_end

pub returns-clause-cut : goal.returns-clause-cut
returns-clause-cut c = cut_end
