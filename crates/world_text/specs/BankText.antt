-- Which texts are those of a bank, and the first fault of any other (docs/FORMATS.md, "Scripts").
use Rattle.std.specs.Prelude.{ℕ, List, [], ◌∷◌, codes, bytes_eq, ok_or, Result, Ok, Err, if◌then◌else◌}
use Rattle.faim_base.specs.Ids.{◌>>=◌}
use Rattle.bank_books.specs.declared.entries.BankOpening.{BankOpening}
use Rattle.world_text.specs.declared.script.Why.{Why}
use Rattle.world_text.specs.declared.script.Why.TheVariants.{Shape, Value}
use Rattle.world_text.specs.declared.script.ScriptFault.{ScriptFault}
use Rattle.world_text.specs.Fields.{date_word, endpoint_word, env_word}
use Rattle.world_text.specs.Grammar.{at_line, text_lines}
use Rattle.world_text.specs.Lines.{words_of}

-- the opening that a `bank` line gives
abbrev pub bank_values : List ℕ → List ℕ → List ℕ → Result BankOpening Why
bank_values endpoint env date = do
  p ← ok_or (endpoint_word endpoint) Value
  e ← ok_or (env_word env) Value
  d ← ok_or (date_word date) Value
  Ok (record { endpoint = p; env = e; date = d })

abbrev pub bank_words : List (List ℕ) → Result BankOpening Why
bank_words (name ∷ endpoint ∷ env ∷ date ∷ []) = if bytes_eq name (codes "bank") then bank_values endpoint env date else Err Shape
bank_words words = Err Shape

abbrev pub bank_line : List ℕ → Result BankOpening Why
bank_line line = bank_words (words_of 4 line)

-- nothing stands after that line
abbrev pub bank_after : BankOpening → List (List ℕ) → Result BankOpening ScriptFault
bank_after o [] = Ok o
bank_after o (more ∷ lines) = Err (record { line = 2; why = Shape })

-- the opening that a text is, or its first fault
abbrev pub bank_of : List ℕ → Result BankOpening ScriptFault
bank_of text = do
  lines ← text_lines text
  o ← at_line 1 (bank_line lines.first)
  bank_after o lines.others
