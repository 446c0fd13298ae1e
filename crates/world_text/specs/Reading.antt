-- What a reader returned against what the definition gives, unless memory ran out.
use Rattle.std.specs.Prelude.{◌≡◌, ℕ, Result, Ok, Err}
use Rattle.world_text.specs.declared.reader.Opened.{Opened}
use Rattle.world_text.specs.declared.script.Why.{Why}
use Rattle.world_text.specs.declared.script.ScriptFault.{ScriptFault}
use Rattle.world_text.specs.declared.script.ScriptRefused.{ScriptRefused}
use Rattle.world_text.specs.declared.script.ScriptRefused.TheVariants as text
use Rattle.world_text.specs.declared.script.LineRefused.{LineRefused}
use Rattle.world_text.specs.declared.script.LineRefused.TheVariants as line
use Rattle.world_text.specs.Grammar.{FirstLines}
use Rattle.world_text.specs.Lines.{lines_of}

-- the refusal of a line at its number
abbrev pub refused_at : ℕ → LineRefused → ScriptRefused
refused_at n (line.Fault why) = text.Fault (record { line = n; why = why })
refused_at n line.NoMemory = text.NoMemory

abbrev pub LineFails : {A : Type 0} → LineRefused → Result A Why → Type 0
LineFails (line.Fault why) read = read ≡ Err why
LineFails line.NoMemory read = Unit {0}

abbrev pub ReadsLine : {A : Type 0} → Result A LineRefused → Result A Why → Type 0
ReadsLine (Ok x) read = read ≡ Ok x
ReadsLine (Err refused) read = LineFails refused read

abbrev pub TextFails : {A : Type 0} → ScriptRefused → Result A ScriptFault → Type 0
TextFails (text.Fault fault) read = read ≡ Err fault
TextFails text.NoMemory read = Unit {0}

abbrev pub ReadsText : {A : Type 0} → Result A ScriptRefused → Result A ScriptFault → Type 0
ReadsText (Ok x) read = read ≡ Ok x
ReadsText (Err refused) read = TextFails refused read

-- the lines that are left are those of the text that is left
abbrev pub first_lines_of : Opened → FirstLines
first_lines_of o = record { config = o.config; next = o.next; rest = lines_of o.rest.now }

abbrev pub Opens : Result Opened ScriptRefused → Result FirstLines ScriptFault → Type 0
Opens (Ok o) read = read ≡ Ok (first_lines_of o)
Opens (Err refused) read = TextFails refused read
