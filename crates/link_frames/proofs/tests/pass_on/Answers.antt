use Rattle.std.proofs.Common.{◌++◌, List, ℕ, ap, ◌∙◌}
use Rattle.link_frames.proofs.Left.{part_stays}
use Rattle.link_frames.proofs.tests.pass_on.Goals as goal

pub returns-in-None-clause-joined : goal.returns-in-None-clause-joined
returns-in-None-clause-joined c = ap (λ (left : List ℕ). c.args.out.now.items ++ left)
    (c.take.follows.holds-at-none ∙ part_stays c.args.splitter.now c.in-None.ensures.there.1)
