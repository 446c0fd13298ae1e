-- What the entries of a bank keep, and the lists of such entries (docs/FORMATS.md, "What a bank takes").
use Rattle.std.specs.Prelude.{◌≡◌, ℕ, List, [], ◌∷◌, Some, Ok}
use Rattle.faim_base.specs.declared.ids.Imad.{Imad}
use Rattle.faim_message.specs.declared.form.Form.TheVariants.{Input}
use Rattle.faim_message.specs.Decoded.{decoded}
use Rattle.faim_message.specs.Spelling.{Content, mark_in}
use Rattle.faim_model.specs.Readings.{imad_in}
use Rattle.entry_codec.specs.BankRanges.{IsEntryOf}
use Rattle.bank_books.specs.declared.entries.BankEntry.{BankEntry}
use Rattle.bank_books.specs.declared.entries.BankEntry.TheVariants.{Drafted, Answered, Received}
use Rattle.bank_books.specs.declared.entries.BankOpening.{BankOpening}
use Rattle.bank_books.specs.Lawful.{BankFollows}
use Rattle.bank_turns.specs.OutputTexts.{output_given}

-- a text that spells a submission with this IMAD and a blank as its mark
pub record KeepsDraft (imad : Imad) (text : List ℕ) : Type 0 where
  pub message : Content
  pub read : decoded Input text ≡ Some message
  pub named : imad_in message ≡ Ok imad
  pub blank : mark_in Input message.tags ≡ 32

-- what an entry keeps: a draft's text spells its submission, an output's text gives that output again
abbrev pub Keeps : BankOpening → BankEntry → Type 0
Keeps o (Drafted imad text) = KeepsDraft imad text
Keeps o (Answered imad verdict) = Unit {0}
Keeps o (Received at text next) = output_given o text ≡ Some (record { at = at; text = text; next = next })

-- an entry may come after these: it has a spelling, it follows them, and it keeps what it is to keep
pub record BankMayFollow (o : BankOpening) (older : List BankEntry) (x : BankEntry) : Type 0 where
  pub spelled : IsEntryOf o.endpoint x
  pub follows : BankFollows o older x
  pub keeps : Keeps o x

-- each entry may come after those before it
abbrev pub KeptBank : BankOpening → List BankEntry → Type 0
KeptBank o [] = Unit {0}
KeptBank o (x ∷ older) = BankMayFollow o older x × KeptBank o older
