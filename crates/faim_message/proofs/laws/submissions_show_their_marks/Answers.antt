use Rattle.faim_message.specs.declared.form.Form.TheVariants.{Input}
use Rattle.faim_message.proofs.Decodings.{decoded_spelled}
use Rattle.faim_message.proofs.Submissions.{mark_is_text_byte, mark_shown, reads_marked}
use Rattle.faim_message.proofs.laws.submissions_show_their_marks.Goals as goal

pub returns-clause-place : goal.returns-clause-place
returns-clause-place c text m read = mark_shown text m read

pub returns-clause-text_byte : goal.returns-clause-text_byte
returns-clause-text_byte c text m read = mark_is_text_byte m (decoded_spelled Input text m read).0.sound

pub returns-clause-marked : goal.returns-clause-marked
returns-clause-marked c text m mark read t = reads_marked text m mark read t
