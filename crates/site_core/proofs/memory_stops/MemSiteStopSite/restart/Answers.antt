use Rattle.std.proofs.Common.{inl, inr, ⊎_elim, refl}
use Rattle.site_core.specs.Tears.{after_stop}
use Rattle.site_core.proofs.Patches.{nothing_covered}
use Rattle.site_core.proofs.Torn.{leaves_after_stop}
use Rattle.site_core.proofs.memory_stops.MemSiteStopSite.restart.Goals as goal

pub returns-clause-told : goal.returns-clause-told
returns-clause-told c = record {
  image = after_stop c.if-self.tear c.args.self.now.past;
  allowed = leaves_after_stop c.if-self.tear c.args.self.now.past;
  log = ⊎_elim (λ traced. inl traced) (λ none. inr (none.0, nothing_covered c.args.self.now.past none.1)) c.come_back.ensures.trace;
  others = refl;
}
