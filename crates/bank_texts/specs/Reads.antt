-- What a bank reads of a text, as what the text tells it, gives it or is to it.
use Rattle.std.specs.Prelude.{◌≡◌, ℕ, List, Some, None}
use Rattle.faim_message.specs.declared.form.Form.TheVariants.{Draft}
use Rattle.faim_message.specs.Decoded.{decoded}
use Rattle.faim_message.specs.Spelling.{Content, marked_with, message_spelling}
use Rattle.bank_turns.specs.AckTexts.{Told}
use Rattle.bank_turns.specs.DraftFaults.{draft_fault}
use Rattle.bank_turns.specs.OutputTexts.{Given}
use Rattle.bank_texts.specs.declared.acks.AckRead.{AckRead}
use Rattle.bank_texts.specs.declared.drafts.DraftRead.{DraftRead}
use Rattle.bank_texts.specs.declared.drafts.DraftRead.TheVariants as read
use Rattle.bank_texts.specs.declared.outputs.OutputRead.{OutputRead}
use Rattle.bank_texts.specs.declared.places.OutputPlace.{OutputPlace}

-- what an acknowledgement told, as the model has it
abbrev pub told_of : AckRead → Told
told_of r = record { imad = r.imad; verdict = r.verdict }

-- what an output gave, as the model has it
abbrev pub given_of : OutputRead → Given
given_of r = record { at = r.at; text = r.text; next = r.next }

-- what an output gives that has this place
abbrev pub given_at_place : Content → OutputPlace → Given
given_at_place m p = record { at = p.at; text = message_spelling (marked_with 32 m); next = p.next }

-- a text is refused as a draft with its fault, or it is the draft
abbrev pub IsDraftRead : List ℕ → DraftRead → Type 0
IsDraftRead text (read.Refused fault) = (draft_fault text ≡ Some fault) × (decoded Draft text ≡ None)
IsDraftRead text (read.Message m) = (decoded Draft text ≡ Some m) × (m.form ≡ Draft)
