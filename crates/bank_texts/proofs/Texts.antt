-- Texts with a blank as their mark, and the drafts that a journal keeps.
use Rattle.std.proofs.Common.{◌≡◌, sym, ap, ◌∙◌, ℕ, set, List, Some}
use Rattle.faim_base.specs.declared.ids.Imad.{Imad}
use Rattle.faim_base.specs.Ids.{imad_text}
use Rattle.faim_message.specs.declared.form.Form.{Form}
use Rattle.faim_message.specs.declared.form.Form.TheVariants.{Output}
use Rattle.faim_message.specs.Decoded.{decoded}
use Rattle.faim_message.specs.Spelling.{Content, IsMessage, body_text, mark_byte, marked_with, message_spelling}
use Rattle.faim_message.specs.Numbering.{numbered}
use Rattle.faim_message.proofs.BodyTexts.{body_is}
use Rattle.faim_message.proofs.Decodings.{decoded_spelled}
use Rattle.faim_message.proofs.MarkBytes.{mark_alone}
use Rattle.bank_turns.specs.Drafting.{draft_text}

-- an output's text with a blank as byte 9 is that of the output with a blank as its mark
pub blank_text : (text : List ℕ) (m : Content) → decoded Output text ≡ Some m → set text 9 32 ≡ message_spelling (marked_with 32 m)
blank_text text m read =
    let s = decoded_spelled Output text m read in
    ap (λ (bytes : List ℕ). set bytes 9 32) s.0.spelled
    ∙ sym (ap (λ (f : Form). set (message_spelling m) (mark_byte f) 32) s.1)
    ∙ sym (mark_alone m 32 s.0.sound)

-- the body of a numbered draft is the text that the draft becomes
pub numbered_text : (m w : Content) (imad : Imad) → IsMessage w → w ≡ numbered m (imad_text imad) → body_text w ≡ draft_text m imad
numbered_text m w imad sound is =
    body_is w sound (ap (λ (v : Content). v.form) is) ∙ ap (λ (v : Content). message_spelling (marked_with 32 v)) is
