use Rattle.std.proofs.Common.{◌≡◌, true}
use Rattle.std.specs.Prelude.{IfSome}
use Rattle.site_core.specs.Log.{reads}
use Rattle.node_session.specs.Going.{Going, still_to_come}
use Rattle.node_session.proofs.Images.{IsSound}
use Rattle.host_session.specs.HostKind.{host_kind}
use Rattle.host_session.proofs.serving.serve.Given as goal

-- all that came is handled, and no fault was counted
abbrev pub invariant-loop-node : goal.invariant-loop-node
invariant-loop-node g l = record {
  going : Going host_kind
      (record { left = g.I.Source.left l.fn.input; given = g.C.Clock.given l.fn.clock; site = g.S.Site.told l.fn.site })
      l.reader l.node
      (record { left = g.I.Source.left l.input; given = g.C.Clock.given l.clock; site = g.S.Site.told l.site });
  opened : IfSome (g.S.Site.told l.fn.site) (λ told. IsSound host_kind (reads told.log));
  live : l.node.live ≡ true;
  reads : g.I.Source.read_faults l.input ≡ g.I.Source.read_faults l.fn.input;
  readings : g.C.Clock.clock_faults l.clock ≡ g.C.Clock.clock_faults l.fn.clock;
  disk : g.S.Site.disk_faults l.site ≡ g.S.Site.disk_faults l.fn.site;
  line : g.S.Site.line_faults l.site ≡ g.S.Site.line_faults l.fn.site;
}

abbrev pub decreases-loop-node : goal.decreases-loop-node
decreases-loop-node g l = still_to_come l.reader
