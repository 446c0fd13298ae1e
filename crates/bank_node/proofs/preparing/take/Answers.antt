use Rattle.std.proofs.Common.{◌≡◌, ◌++◌, List, ℕ, sym, ◌∙◌, ap, append-nil}
use Rattle.link_frames.specs.declared.frame.FrameKind.{FrameKind}
use Rattle.link_frames.specs.Frames.{Content as Frame}
use Rattle.bank_turns.specs.AckTexts.{ack_told}
use Rattle.bank_turns.specs.BankSteps.{step_on}
use Rattle.bank_node.specs.Preparing.{bytes_sent}
use Rattle.std.proofs.Common.{map}
use Rattle.link_frames.specs.Frames.{frame_bytes}
use Rattle.bank_node.proofs.Handled.{on_ok, quiet_ack}
use Rattle.bank_node.proofs.preparing.take.Goals as goal

pub returns-in-Ack-clause-frames : goal.returns-in-Ack-clause-frames
returns-in-Ack-clause-frames c =
    let o = c.args.list.now.opening in
    let es = c.args.list.now.entries in
    let payload = c.args.frame.now.payload.now in
    let out = c.args.outbox.now in
    on_ok c.take_ack.result _
    (sym (append-nil out)
    ∙ ap (λ (l : List Frame). out ++ map frame_bytes l) (sym (quiet_ack es (ack_told o payload)))
    ∙ ap (λ (k : FrameKind). out ++ bytes_sent (step_on o es k payload)) (sym c.in-Ack.is))
