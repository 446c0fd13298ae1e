use Rattle.std.proofs.Common.{◌∷◌, [], inl, inr, refl, Err, arith}
use Rattle.faim_base.specs.declared.faults.Failed.{Failed}
use Rattle.site_core.specs.Log.Act.{SendFailed}
use Rattle.site_core.specs.Told.{IsSend}
use Rattle.site_core.specs.Told.Part.{Line}
use Rattle.site_core.proofs.Answering.{cut_short, lacked, turned_away}
use Rattle.site_core.proofs.memory_calls.MemSiteSite.send.Goals as goal

pub returns-in-Err-clause-told : goal.returns-in-Err-clause-told
returns-in-Err-clause-told c =
    lacked Line _ _ _ _ c.args.self.now.disk _ _ (record {}) (IsSend {T = Unit {0}} {E = Failed} c.args.frame.now (Err (record {}))) c.lack.new.counts c.lack.new.faults c.lack.ensures.others c.lack.ensures.lacks c.lack.ensures.lacks_later c.lack.ensures.unarmed (inl refl) c.send_whole.new.past c.in-Err.ensures.err c.in-Goes.ensures.begins

pub returns-in-Ok-send_torn-clause-told : goal.returns-in-Ok-send_torn-clause-told
returns-in-Ok-send_torn-clause-told c =
    cut_short Line _ _ _ _ c.args.self.now.disk c.args.self.now.past _ (record {}) (IsSend {T = Unit {0}} {E = Failed} c.args.frame.now (Err (record {}))) c.in-Stops.ensures.begins (SendFailed c.args.frame.now _ ∷ []) (omega arith) refl (inr (_, refl)) c.send_torn.new.past c.in-Ok-send_torn.ensures.ok

pub returns-in-Fails-clause-told : goal.returns-in-Fails-clause-told
returns-in-Fails-clause-told c = turned_away Line _ _ _ _ c.args.self.now.disk c.args.self.now.past _ (record {}) (IsSend {T = Unit {0}} {E = Failed} c.args.frame.now (Err (record {}))) c.in-Fails.ensures.begins (inl refl)
