-- What a check of an input says (docs/FORMATS.md, "Checks").
use Rattle.std.specs.Prelude.{◌≡◌, ◌≢◌, ℕ, ◌==◌, List, [], ◌∷◌, ◌++◌, codes, Option, Some, None, if◌then◌else◌}
use Rattle.faim_base.specs.declared.judgement.Refused.{Refused}
use Rattle.faim_base.specs.declared.judgement.Refused.TheVariants.{NoMemory}
use Rattle.faim_message.specs.declared.form.Form.TheVariants.{Input}
use Rattle.faim_base.specs.Refusals.{edit}
use Rattle.faim_message.specs.Spelling.{Content, Spells}
use Rattle.faim_message.specs.Edits.{first_failed, test_or_production}
use Rattle.faim_message.specs.Refusal.{Refuses}
use Rattle.faim_edits.specs.Printing.{refusal_with_text}
use Rattle.faim_top.specs.declared.status.Status.{Status}
use Rattle.faim_top.specs.declared.status.Status.TheVariants as statuses
use Rattle.faim_top.specs.declared.status.Reason.TheVariants as reasons

-- the text spells an Input message
pub record IsInput (text : List ℕ) : Type 0 where
  pub message : Content
  pub kind : message.form ≡ Input
  pub spells : Spells message text

-- it spells none, for this reason
pub record IsRefused (text : List ℕ) (why : Refused) : Type 0 where
  pub refuses : Refuses Input text why
  pub judged : why ≢ NoMemory

-- a line, and the message after it
abbrev pub accepted_text : List ℕ → List ℕ
accepted_text message = codes "accepted" ++ 10 ∷ message

-- the line on which a message is tried: production where it says so, and else test
abbrev pub env_of : Content → ℕ
env_of m = if test_or_production m == 80 then 80 else 84

-- the number of the first edit that it fails there
abbrev pub failed_edit : Content → Option ℕ
failed_edit m = first_failed (env_of m) m

-- the line of an edit that fails: its number and its text
abbrev pub edit_line : ℕ → List ℕ
edit_line number = codes "edit " ++ refusal_with_text (edit number) ++ 10 ∷ []

-- what is written of a message, which fails this edit first or none
abbrev pub message_text : Option ℕ → List ℕ → List ℕ
message_text None message = accepted_text message
message_text (Some number) message = edit_line number

-- and the status, once that is written
abbrev pub message_status : Option ℕ → Status
message_status None = statuses.Done
message_status (Some number) = statuses.Refused (reasons.Edit number)
