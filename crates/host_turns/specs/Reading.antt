-- What a host reads of a text, as what the text is to it.
use Rattle.host_turns.specs.declared.reading.ReadText.{ReadText}
use Rattle.host_turns.specs.declared.reading.ReadText.TheVariants as read
use Rattle.host_turns.specs.declared.reading.Numbered.{Numbered}
use Rattle.faim_model.specs.Submissions as submissions
use Rattle.faim_model.specs.Submissions.{Submission}

-- a message with a valid identifier
abbrev pub numbered_of : Numbered → Submission
numbered_of n = submissions.Numbered n.head n.body n.mark n.failed

-- what was read, as the model has it
abbrev pub submission_of : ReadText → Submission
submission_of read.Strange = submissions.Strange
submission_of read.Unnumbered = submissions.Unnumbered
submission_of (read.Numbered n) = numbered_of n
