use Rattle.std.proofs.Common.{length, ap, arith}
use Rattle.store_forward.proofs.OneBuffer.{frames_long}
use Rattle.store_forward.proofs.outbox.Outbox.frame.Goals as goal

pub frame_at-requires-clause-place : goal.frame_at-requires-clause-place
frame_at-requires-clause-place c =
    omega (arith, c.requires, ap length c.deref-2.ensures.value, frames_long 0 c.self.inside.bytes.items c.self.inside.ends.items, ap length c.self.view_is)
