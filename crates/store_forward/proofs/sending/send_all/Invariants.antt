use Rattle.std.proofs.Common.{◌≡◌}
use Rattle.site_core.specs.Told.{Goes}
use Rattle.store_forward.proofs.SendLoop.{SentBefore}
use Rattle.store_forward.proofs.sending.send_all.Given as goal

abbrev pub invariant-loop-place : goal.invariant-loop-place
invariant-loop-place g l =
    Goes (g.S.Site.told l.fn.site) (g.S.Site.told l.site) (SentBefore l.place l.fn.outbox)
    × (g.S.Site.line_faults l.site ≡ g.S.Site.line_faults l.fn.site)
    × (g.S.Site.disk_faults l.site ≡ g.S.Site.disk_faults l.fn.site)
