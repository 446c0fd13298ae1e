use Rattle.std.proofs.Common.{◌-◌, ◌≡◌}
use Rattle.torn_journal.specs.Limits.{greatest_tail}
use Rattle.torn_journal.proofs.RecordsRead.{Reached}
use Rattle.torn_journal.proofs.resuming.resume.Given as goal

abbrev pub invariant-loop-place : goal.invariant-loop-place
invariant-loop-place g l = record {
  reached : Reached g.V.Visit.follows (g.V.Visit.stands l.visit) l.place (g.S.Site.told l.fn.site) (g.S.Site.told l.site);
  disk : g.S.Site.disk_faults l.site ≡ g.S.Site.disk_faults l.fn.site;
  line : g.S.Site.line_faults l.site ≡ g.S.Site.line_faults l.fn.site;
}

abbrev pub decreases-loop-place : goal.decreases-loop-place
decreases-loop-place g l = greatest_tail - l.place
