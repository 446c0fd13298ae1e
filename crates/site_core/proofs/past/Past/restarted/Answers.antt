use Rattle.std.proofs.Common.{subst, reverse}
use Rattle.site_core.specs.Memory.{IsPlain}
use Rattle.site_core.proofs.Torn.{plain_acts}
use Rattle.site_core.proofs.past.Past.restarted.Goals as goal

pub returns-clause-plain : goal.returns-clause-plain
returns-clause-plain c = subst IsPlain c.self.view_is (plain_acts (reverse c.self.inside.calls.items) (reverse c.self.inside.frames.items))
