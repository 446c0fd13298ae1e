use Rattle.std.proofs.Common.{inr, reverse}
use Rattle.site_core.proofs.Stored.{sent_one}
use Rattle.site_core.proofs.past.Past.sent.Goals as goal

pub invariant_of-self-2 : goal.invariant_of-self-2
invariant_of-self-2 c = (
  sent_one (reverse c.self.inside.calls.items) (reverse c.add.new.calls.items) c.self.inside.frames.items c.reserve.new.self.items c.keep.new.items.items c.args.frame c.reserve.ensures.items c.keep.ensures.newest c.keep.ensures.items c.self.invariant.0 c.in_ok-add.ensures.ok.0,
  inr c.in_ok-add.ensures.ok.1,
)
