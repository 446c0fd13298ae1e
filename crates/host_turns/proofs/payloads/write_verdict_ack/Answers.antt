use Rattle.std.proofs.Common.{◌≡◌, ◌++◌, sym, subst}
use Rattle.std.specs.Prelude.{OnOk}
use Rattle.faim_base.specs.declared.judgement.Verdict.{Verdict}
use Rattle.faim_message.specs.Spelling.{message_spelling}
use Rattle.faim_model.specs.Acks.{verdict_ack}
use Rattle.host_turns.proofs.payloads.write_verdict_ack.Goals as goal

pub returns-in-Refused-clause-ok : goal.returns-in-Refused-clause-ok
returns-in-Refused-clause-ok c =
    let Q : Verdict → Type 0 = λ v.
    OnOk c.write_refused.result (c.write_refused.new.out.items ≡ c.args.out.now.items ++ message_spelling (verdict_ack c.args.env c.args.head.now c.args.moment v c.args.mark)) in
    subst Q (sym c.in-Refused.is) c.write_refused.ensures.ok
