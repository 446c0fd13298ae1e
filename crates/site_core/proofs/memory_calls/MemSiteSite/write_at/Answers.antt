use Rattle.std.proofs.Common.{◌∷◌, [], inl, inr, refl, Err, arith}
use Rattle.faim_base.specs.declared.faults.Failed.{Failed}
use Rattle.site_core.specs.Log.Act.{WriteFailed}
use Rattle.site_core.specs.Told.{IsWrite}
use Rattle.site_core.specs.Told.Part.{Disk}
use Rattle.site_core.proofs.Answering.{cut_short, lacked, turned_away}
use Rattle.site_core.proofs.memory_calls.MemSiteSite.write_at.Goals as goal

pub returns-in-Err-clause-told : goal.returns-in-Err-clause-told
returns-in-Err-clause-told c =
    lacked Disk _ _ _ _ c.args.self.now.line _ _ (record {}) (IsWrite {T = Unit {0}} {E = Failed} c.args.at c.args.bytes.now (Err (record {}))) c.lack.new.counts c.lack.new.faults c.lack.ensures.others c.lack.ensures.lacks c.lack.ensures.lacks_later c.lack.ensures.unarmed (inl refl) c.write.new.past c.in-Err.ensures.no_trace c.in-Goes.ensures.begins

pub returns-in-Ok-write-clause-told : goal.returns-in-Ok-write-clause-told
returns-in-Ok-write-clause-told c =
    cut_short Disk _ _ _ _ c.args.self.now.line c.args.self.now.past _ (record {}) (IsWrite {T = Unit {0}} {E = Failed} c.args.at c.args.bytes.now (Err (record {}))) c.in-Stops.ensures.begins (WriteFailed c.args.at c.args.bytes.now c.args.bytes.now ∷ []) (omega arith) refl (inr (_, refl)) c.write-in-Stops.new.past c.in-Ok-write.ensures.trace

pub returns-in-Fails-clause-told : goal.returns-in-Fails-clause-told
returns-in-Fails-clause-told c = turned_away Disk _ _ _ _ c.args.self.now.line c.args.self.now.past _ (record {}) (IsWrite {T = Unit {0}} {E = Failed} c.args.at c.args.bytes.now (Err (record {}))) c.in-Fails.ensures.begins (inl refl)
