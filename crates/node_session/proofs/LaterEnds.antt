-- What ends a session that was opened.
use Rattle.std.proofs.Common.{Err}
use Rattle.site_core.specs.Told.{Told, Counted}
use Rattle.site_core.specs.Told.Part.{Disk, Line}
use Rattle.site_core.proofs.Runs.{reason_after}
use Rattle.line_sessions.specs.declared.ends.SessionEnd.{SessionEnd}
use Rattle.line_sessions.specs.declared.ends.SessionEnd.TheVariants.{ReadFault, Frame, TooLong, ClockFault, DiskFault, LineFault, NoJournal, Damaged, JournalFull, NoMemory}
use Rattle.node_session.specs.Ending.{EndReason, Opens}
use Rattle.node_session.specs.Going.{IsStepEnd, IsLaterEnd}
use Rattle.node_session.specs.Kinds.{Kind}

pub step_ends_later : (end : SessionEnd) → IsStepEnd end → IsLaterEnd end
step_ends_later ReadFault is = absurd is
step_ends_later (Frame fault) is = absurd is
step_ends_later TooLong is = absurd is
step_ends_later ClockFault is = tt
step_ends_later DiskFault is = tt
step_ends_later LineFault is = tt
step_ends_later NoJournal is = absurd is
step_ends_later (Damaged place) is = absurd is
step_ends_later (JournalFull tail need) is = tt
step_ends_later NoMemory is = tt

-- nothing is said of the image
pub opens_later : {O E X A K : Type 0} (kind : Kind O E X A K) (end : SessionEnd) → IsLaterEnd end → (old new : Told) → Opens kind (Err end) old new
opens_later kind ReadFault is old new = tt
opens_later kind (Frame fault) is old new = tt
opens_later kind TooLong is old new = tt
opens_later kind ClockFault is old new = tt
opens_later kind DiskFault is old new = tt
opens_later kind LineFault is old new = tt
opens_later kind NoJournal is old new = absurd is
opens_later kind (Damaged place) is old new = absurd is
opens_later kind (JournalFull tail need) is old new = tt
opens_later kind NoMemory is old new = tt

-- the reason is one of the whole session
pub reason_on : (end : SessionEnd) (a b c : Told) → Counted a b → Counted b c → EndReason (Err end) b c → EndReason (Err end) a c
reason_on ReadFault a b c p q r = tt
reason_on (Frame fault) a b c p q r = tt
reason_on TooLong a b c p q r = tt
reason_on ClockFault a b c p q r = tt
reason_on DiskFault a b c p q r = reason_after Disk a b c p q r
reason_on LineFault a b c p q r = reason_after Line a b c p q r
reason_on NoJournal a b c p q r = tt
reason_on (Damaged place) a b c p q r = tt
reason_on (JournalFull tail need) a b c p q r = tt
reason_on NoMemory a b c p q r = tt
