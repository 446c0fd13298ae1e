use Rattle.host_turns.proofs.Appended.{text_written}
use Rattle.host_turns.proofs.payloads.write_text.Goals as goal

pub returns-clause-ok : goal.returns-clause-ok
returns-clause-ok c =
    text_written c.args.out.now.items _ _ _ c.before-2.result.now c.after.result.now c.args.body.now 17 c.args.mark c.requires
    c.before-2.ensures c.after.ensures c.in_ok-extend_from_slice.ensures.items c.in_ok-push.ensures.items c.in_ok-extend_from_slice-2.ensures.items
