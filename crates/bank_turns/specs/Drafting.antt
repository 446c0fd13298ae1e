-- The text that a draft becomes, and the frames that a bank sends (docs/FORMATS.md, "Frames").
use Rattle.std.specs.Prelude.{ℕ, List}
use Rattle.faim_base.specs.declared.ids.Imad.{Imad}
use Rattle.faim_base.specs.declared.ids.OutPos.{OutPos}
use Rattle.faim_base.specs.Ids.{imad_text, position_text}
use Rattle.faim_message.specs.Numbering.{numbered}
use Rattle.faim_message.specs.Spelling.{Content, message_spelling, marked_with}
use Rattle.link_frames.specs.declared.frame.FrameKind.{FrameKind}
use Rattle.link_frames.specs.Frames.{Content as Frame}
use Rattle.faim_model.specs.Submissions.{text_with}

-- a draft with an IMAD and a blank as its mark
abbrev pub draft_text : Content → Imad → List ℕ
draft_text m imad = message_spelling (marked_with 32 (numbered m (imad_text imad)))

-- the text of a draft, submitted with a mark on the line of its source
abbrev pub submit : Imad → List ℕ → ℕ → Frame
submit imad text mark = record { kind = FrameKind.Submit; endpoint = imad.source; payload = text_with mark text }

-- the outputs of an endpoint from a position on, asked for
abbrev pub retrieve : List ℕ → OutPos → Frame
retrieve endpoint at = record { kind = FrameKind.Retrieve; endpoint = endpoint; payload = position_text at }
