use Rattle.std.proofs.Common.{length, ap, arith}
use Rattle.store_forward.proofs.OneBuffer.{frames_long}
use Rattle.store_forward.proofs.outbox.Outbox.len.Goals as goal

pub returns : goal.returns
returns c = omega (arith, c.len.ensures, c.self.inside.ends.ok, frames_long 0 c.self.inside.bytes.items c.self.inside.ends.items, ap length c.self.view_is)
