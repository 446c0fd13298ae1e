use Rattle.std.proofs.Common.{sym, ◌∙◌}
use Rattle.link_frames.proofs.Splitting.{one, longest}
use Rattle.link_frames.proofs.laws.one_splitting.Goals as goal

pub returns-clause-one : goal.returns-clause-one
returns-clause-one c = one

pub returns-clause-longest : goal.returns-clause-longest
returns-clause-longest c = λ bytes f g r s a all is. longest g f s r (sym is ∙ a.is) all a.each a.part
