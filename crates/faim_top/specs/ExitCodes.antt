-- How the program tells that a run has ended (docs/FORMATS.md, "Exit statuses").
use Rattle.std.specs.Prelude.{ℕ, List, ◌++◌, codes}
use Rattle.std.specs.Fmt.{decimal}
use Rattle.std.specs.declared.io.ErrorKind.{ErrorKind}
use Rattle.std.specs.declared.io.ErrorKind.TheVariants.{OutOfMemory}
use Rattle.faim_top.specs.declared.status.Status.{Status}
use Rattle.faim_top.specs.declared.status.Status.TheVariants.{Done, Usage, Refused, NoMemory, ReadFault, WriteFault, DiskFault, LineFault, Damaged, JournalFull, NoJournal, ClockFault}

-- the exit status
abbrev pub code_of : Status → ℕ
code_of Done = 0
code_of Usage = 2
code_of (Refused why) = 3
code_of NoMemory = 4
code_of ReadFault = 5
code_of WriteFault = 6
code_of DiskFault = 7
code_of LineFault = 8
code_of (Damaged place) = 9
code_of (JournalFull tail need) = 10
code_of NoJournal = 11
code_of ClockFault = 12

-- the line that tells it
abbrev pub line_of : Status → List ℕ
line_of Done = codes "faim: done"
line_of Usage = codes "faim: usage"
line_of (Refused why) = codes "faim: refused"
line_of NoMemory = codes "faim: no memory"
line_of ReadFault = codes "faim: read fault"
line_of WriteFault = codes "faim: write fault"
line_of DiskFault = codes "faim: disk fault"
line_of LineFault = codes "faim: line fault"
line_of (Damaged place) = codes "faim: damaged at " ++ decimal place
line_of (JournalFull tail need) = codes "faim: journal full at " ++ decimal tail ++ codes " needing " ++ decimal need
line_of NoJournal = codes "faim: no journal"
line_of ClockFault = codes "faim: clock fault"

-- the end of a run whose words could not be read: memory ran out, or a word is no text and so in no command
abbrev pub status_without_words : ErrorKind → Status
status_without_words OutOfMemory = NoMemory
status_without_words kind = Usage
