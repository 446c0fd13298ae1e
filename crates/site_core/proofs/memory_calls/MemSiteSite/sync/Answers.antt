use Rattle.std.proofs.Common.{inl, refl, Err}
use Rattle.faim_base.specs.declared.faults.Failed.{Failed}
use Rattle.site_core.specs.Told.{IsSync}
use Rattle.site_core.specs.Told.Part.{Disk}
use Rattle.site_core.proofs.Answering.{lacked, turned_away}
use Rattle.site_core.proofs.memory_calls.MemSiteSite.sync.Goals as goal

pub returns-in-Err-clause-told : goal.returns-in-Err-clause-told
returns-in-Err-clause-told c =
    lacked Disk _ _ _ _ c.args.self.now.line _ _ (record {}) (IsSync {T = Unit {0}} {E = Failed} (Err (record {}))) c.lack.new.counts c.lack.new.faults c.lack.ensures.others c.lack.ensures.lacks c.lack.ensures.lacks_later c.lack.ensures.unarmed (inl refl) c.synced.new.self c.in-Err.ensures.err c.in-Goes.ensures.begins

pub returns-in-Fails-clause-told : goal.returns-in-Fails-clause-told
returns-in-Fails-clause-told c = turned_away Disk _ _ _ _ c.args.self.now.line c.args.self.now.past _ (record {}) (IsSync {T = Unit {0}} {E = Failed} (Err (record {}))) c.in-Fails.ensures.begins (inl refl)
