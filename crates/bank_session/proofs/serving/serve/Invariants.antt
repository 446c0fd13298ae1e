use Rattle.std.proofs.Common.{◌≡◌, ℕ, List, Option, true}
use Rattle.std.specs.Prelude.{IfSome}
use Rattle.site_core.specs.Log.{reads}
use Rattle.node_session.specs.Going.{Going, still_to_come}
use Rattle.node_session.proofs.Images.{IsSound}
use Rattle.bank_session.specs.BankKind.{bank_kind}
use Rattle.bank_session.proofs.serving.serve.Given as goal

-- all that came is handled, and no fault was counted
abbrev pub invariant-loop-node : goal.invariant-loop-node
invariant-loop-node g l = record {
  going : (given : Option (List ℕ)) → Going bank_kind
      (record { left = g.I.Source.left l.fn.input; given = given; site = g.S.Site.told l.fn.site })
      l.reader l.node
      (record { left = g.I.Source.left l.input; given = given; site = g.S.Site.told l.site });
  opened : IfSome (g.S.Site.told l.fn.site) (λ told. IsSound bank_kind (reads told.log));
  live : l.node.live ≡ true;
  reads : g.I.Source.read_faults l.input ≡ g.I.Source.read_faults l.fn.input;
  disk : g.S.Site.disk_faults l.site ≡ g.S.Site.disk_faults l.fn.site;
  line : g.S.Site.line_faults l.site ≡ g.S.Site.line_faults l.fn.site;
}

abbrev pub decreases-loop-node : goal.decreases-loop-node
decreases-loop-node g l = still_to_come l.reader
