-- What a submitted text is to a host.
use Rattle.std.specs.Prelude.{ℕ, List, Option, Some, None, option_map, Result, Ok, Err, slice_set}
use Rattle.faim_base.specs.declared.ids.IdFault.{IdFault}
use Rattle.faim_base.specs.declared.judgement.Head.{Head}
use Rattle.faim_base.specs.declared.judgement.Reject.{Reject}
use Rattle.faim_base.specs.Refusals.{edit}
use Rattle.faim_message.specs.declared.form.Form.TheVariants.{Input}
use Rattle.faim_message.specs.Spelling.{Content, body_text, mark_byte, mark_in}
use Rattle.faim_message.specs.Decoded.{decoded}
use Rattle.faim_message.specs.Edits.{first_failed}
use Rattle.faim_message.specs.Heads.{head_of}

-- no Input message; one whose identifier is none; or one with its head, its body, its mark and the first edit that it
-- fails, where it fails one
pub data Submission : Type 0 where
  Strange : Submission
  Unnumbered : Submission
  Numbered : (head : Head) (body : List ℕ) (mark : ℕ) (failed : Option Reject) → Submission

-- the refusal by the first edit that a message fails on a test or production line
abbrev pub failed_edit : ℕ → Content → Option Reject
failed_edit env m = option_map edit (first_failed env m)

-- a message by its head, or by the fault of its identifier
abbrev pub with_head : ℕ → Content → Result Head IdFault → Submission
with_head env m (Err fault) = Unnumbered
with_head env m (Ok h) = Numbered h (body_text m) (mark_in Input m.tags) (failed_edit env m)

-- a message, or none
abbrev pub submitted_as : ℕ → Option Content → Submission
submitted_as env None = Strange
submitted_as env (Some m) = with_head env m (head_of m)

-- what a text is to a host of this test or production line
abbrev pub submission : ℕ → List ℕ → Submission
submission env text = submitted_as env (decoded Input text)

-- a body as the text of its message with this mark
abbrev pub text_with : ℕ → List ℕ → List ℕ
text_with mark body = slice_set body (mark_byte Input) mark
