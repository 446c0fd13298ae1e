use Rattle.std.proofs.Common.{◌++◌, ap, map, ◌∙◌}
use Rattle.host_ledger.specs.declared.entries.Entry.{Entry}
use Rattle.link_frames.specs.Frames.{frame_bytes}
use Rattle.faim_model.specs.Sending.{frames_of}
use Rattle.host_node.proofs.submitting.post_new.Goals as goal

pub returns-in-Ok-clause-frames : goal.returns-in-Ok-clause-frames
returns-in-Ok-clause-frames c =
    let s = c.args.state.now in
    c.in-Ok.ensures.frames ∙ ap (λ (x : Entry). c.args.outbox.now ++ map frame_bytes (frames_of s.config s.entries x 32)) c.posted-entry.ensures
