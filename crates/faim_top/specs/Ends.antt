-- What a query answers to an input, and what stands at the end of a run.
use Rattle.std.specs.Prelude.{◌≡◌, ◌⊎◌, ℕ, ◌+◌, ◌≤◌, List, [], length, take, Option, Some, Result, Ok, Err, IfSome}
use Rattle.std.specs.Io.KnownBytes.{Appends, Keeps, IsAtEnd}
use Rattle.faim_base.specs.Limits.{longest_message}
use Rattle.faim_base.specs.declared.judgement.Refused as refusals
use Rattle.faim_edits.specs.Printing.{table_text}
use Rattle.faim_top.specs.declared.query.Query.{Query}
use Rattle.faim_top.specs.declared.query.Query.TheVariants.{Check, Table, Replay}
use Rattle.world_text.specs.declared.script.Script.{Script}
use Rattle.world_text.specs.declared.script.ScriptFault.{ScriptFault}
use Rattle.faim_top.specs.declared.status.Status.{Status}
use Rattle.faim_top.specs.declared.status.Status.TheVariants.{Done, Refused, NoMemory, ReadFault, WriteFault}
use Rattle.faim_top.specs.declared.status.Reason.TheVariants as reasons
use Rattle.faim_top.specs.Checks.{IsInput, IsRefused, failed_edit, message_text, message_status}
use Rattle.world_text.specs.Grammar.{script_of, size_limit}
use Rattle.world_text.specs.Report.{fault_line, refusal_line}
use Rattle.faim_top.specs.Replay.{report_of}
use Rattle.faim_top.specs.Seen.{Seen}

-- what is to be written of a script's text: its report, or the line of its first fault
abbrev pub answer_text : Result Script ScriptFault → List ℕ
answer_text (Ok s) = report_of s
answer_text (Err f) = fault_line f

-- the status, once that is written
abbrev pub answer_status : Result Script ScriptFault → Status
answer_status (Ok s) = Done
answer_status (Err f) = Refused (reasons.Script f)

-- the input is a message, and it is written after a line where it fails no edit; or the line is written that says which
-- edit it fails first, or why it is no message
abbrev pub Checked : List ℕ → Status → List ℕ → Type 0
Checked text status bytes =
    ((input : IsInput text) × (status ≡ message_status (failed_edit input.message)) × (bytes ≡ message_text (failed_edit input.message) text))
    ⊎ ((why : refusals.Refused) × IsRefused text why × (status ≡ Refused (reasons.Text why)) × (bytes ≡ refusal_line why))

-- the query's answer to an input: how the run ends, and the bytes that are written
abbrev pub Answers : Query → List ℕ → Status → List ℕ → Type 0
Answers Check text status bytes = Checked text status bytes
Answers Table text status bytes = (status ≡ Done) × (bytes ≡ table_text)
Answers Replay text status bytes = (status ≡ answer_status (script_of text)) × (bytes ≡ answer_text (script_of text))

-- the query's answer to an input has this status
abbrev pub IsAnswered : Query → Status → List ℕ → Type 0
IsAnswered query status text = (bytes : List ℕ) × Answers query text status bytes

-- how many bytes of an input a query reads at most: one more than the longest message has, none, one more than a script may have
abbrev pub most_read : Query → ℕ
most_read Check = longest_message + 1
most_read Table = 0
most_read Replay = size_limit + 1

-- what a query answers to, where it is known: its input, but a table needs none
abbrev pub input_of : Query → Option (List ℕ) → Option (List ℕ)
input_of Check left = left
input_of Table left = Some []
input_of Replay left = left

-- a source was read to its end by a query that reads it
abbrev pub ReadToEnd : Query → Option (List ℕ) → Type 0
ReadToEnd Check rest = IsAtEnd rest
ReadToEnd Table rest = Unit {0}
ReadToEnd Replay rest = IsAtEnd rest

-- a query reads its source
abbrev pub Reads : Query → Type 0
Reads Check = Unit {0}
Reads Table = ⊥
Reads Replay = Unit {0}

-- the bytes of a sink, where they are known, grow by the query's answer, and it has this status
pub record Writes (query : Query) (text : List ℕ) (status : Status) (written : Seen (Option (List ℕ))) : Type 0 where
  pub bytes : List ℕ
  pub answers : Answers query text status bytes
  pub grows : Appends written.before written.after bytes

-- they grow by a front part of some bytes
pub record AppendsPart (written : Seen (Option (List ℕ))) (bytes : List ℕ) : Type 0 where
  pub count : ℕ
  pub within : count ≤ length bytes
  pub grows : Appends written.before written.after (take count bytes)

-- they grow by a front part of the query's answer
pub record WritesPart (query : Query) (text : List ℕ) (written : Seen (Option (List ℕ))) : Type 0 where
  pub status : Status
  pub bytes : List ℕ
  pub answers : Answers query text status bytes
  pub part : AppendsPart written bytes

-- the bytes that a source has left and those that a sink has taken, where they are known
pub record Streams : Type 0 where
  pub left : Seen (Option (List ℕ))
  pub written : Seen (Option (List ℕ))

-- what each status of a query says of what was read and written
abbrev pub Ended : Query → Status → Streams → Type 0
Ended query Done s = IfSome (input_of query s.left.before) (λ text. Writes query text Done s.written) × ReadToEnd query s.left.after
Ended query (Refused why) s = IfSome (input_of query s.left.before) (λ text. Writes query text (Refused why) s.written)
Ended query WriteFault s = IfSome (input_of query s.left.before) (λ text. WritesPart query text s.written)
Ended query NoMemory s = Keeps s.written.before s.written.after
Ended query ReadFault s = Reads query × Keeps s.written.before s.written.after
Ended query other s = ⊥
