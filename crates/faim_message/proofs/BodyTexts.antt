-- The text of a submission's body is the spelling of the submission with a blank as its mark.
use Rattle.std.proofs.Common.{◌≡◌, set, refl, sym, ap, ◌∙◌}
use Rattle.std.specs.Prelude.{◌↔◌}
use Rattle.faim_message.specs.declared.form.Form.{Form}
use Rattle.faim_message.specs.declared.form.Form.TheVariants.{Input}
use Rattle.faim_message.specs.Spelling.{Content, IsMessage, message_spelling, mark_byte, marked_with, body_text}
use Rattle.faim_message.proofs.Judge.{one_message}
use Rattle.faim_message.proofs.Duplication.{IsMessage-marked}
use Rattle.faim_message.proofs.MarkBytes.{mark_alone}

pub body_is : (m : Content) → IsMessage m → m.form ≡ Input → body_text m ≡ message_spelling (marked_with 32 m)
body_is m h e = sym (mark_alone m 32 h ∙ ap (λ (form : Form). set (message_spelling m) (mark_byte form) 32) e)

-- one body, one submission but for its mark
pub bodies_tell : (m w : Content) → IsMessage m → IsMessage w → m.form ≡ Input → w.form ≡ Input → (body_text m ≡ body_text w) ↔ (marked_with 32 m ≡ marked_with 32 w)
bodies_tell m w h k e f = (
  λ same. one_message (marked_with 32 m) (marked_with 32 w) (body_text m) (e ∙ sym f)
      (record { sound = IsMessage-marked m 32 h refl; spelled = body_is m h e }) (record { sound = IsMessage-marked w 32 k refl; spelled = same ∙ body_is w k f }),
  λ same. body_is m h e ∙ ap message_spelling same ∙ sym (body_is w k f),
)
