-- The statuses that a session has.
use Rattle.std.proofs.Common.{◌≡◌, ◌≢◌, refl, sym, ◌∙◌, ap, subst, Result, Ok, Err}
use Rattle.line_sessions.specs.declared.ends.SessionEnd.{SessionEnd}
use Rattle.line_sessions.specs.declared.ends.SessionEnd.TheVariants as ends
use Rattle.faim_top.specs.declared.status.Status.{Status}
use Rattle.faim_top.specs.declared.status.Status.TheVariants as statuses
use Rattle.faim_top.specs.Sessions.{SessionAnswer, status_by, status_of}

end_usage : (end : SessionEnd) → status_by end ≢ statuses.Usage
end_usage ends.ReadFault is = cc
end_usage (ends.Frame fault) is = cc
end_usage ends.TooLong is = cc
end_usage ends.ClockFault is = cc
end_usage ends.DiskFault is = cc
end_usage ends.LineFault is = cc
end_usage ends.NoJournal is = cc
end_usage (ends.Damaged place) is = cc
end_usage (ends.JournalFull tail need) is = cc
end_usage ends.NoMemory is = cc

pub never_usage : (end : Result (Unit {0}) SessionEnd) (status : Status) → status ≡ status_of end → status ≢ statuses.Usage
never_usage (Ok done) status told is = cc
never_usage (Err end) status told is = end_usage end (sym told ∙ is)

end_write : (end : SessionEnd) → status_by end ≢ statuses.WriteFault
end_write ends.ReadFault is = cc
end_write (ends.Frame fault) is = cc
end_write ends.TooLong is = cc
end_write ends.ClockFault is = cc
end_write ends.DiskFault is = cc
end_write ends.LineFault is = cc
end_write ends.NoJournal is = cc
end_write (ends.Damaged place) is = cc
end_write (ends.JournalFull tail need) is = cc
end_write ends.NoMemory is = cc

pub never_write : (end : Result (Unit {0}) SessionEnd) (status : Status) → status ≡ status_of end → status ≢ statuses.WriteFault
never_write (Ok done) status told is = cc
never_write (Err end) status told is = end_write end (sym told ∙ is)

-- a session whose end isn't that of a clock
pub end_clock : (end : SessionEnd) → end ≢ ends.ClockFault → status_by end ≢ statuses.ClockFault
end_clock ends.ReadFault timeless is = cc
end_clock (ends.Frame fault) timeless is = cc
end_clock ends.TooLong timeless is = cc
end_clock ends.ClockFault timeless is = timeless refl
end_clock ends.DiskFault timeless is = cc
end_clock ends.LineFault timeless is = cc
end_clock ends.NoJournal timeless is = cc
end_clock (ends.Damaged place) timeless is = cc
end_clock (ends.JournalFull tail need) timeless is = cc
end_clock ends.NoMemory timeless is = cc

end_answer : (end : SessionEnd) → (status_by end ≢ statuses.ReadFault) → (status_by end ≢ statuses.DiskFault) → (status_by end ≢ statuses.LineFault) → (status_by end ≢ statuses.ClockFault)
    → (status_by end ≢ statuses.NoMemory) → SessionAnswer (status_by end)
end_answer ends.ReadFault read disk line clock memory = absurd (read refl)
end_answer (ends.Frame fault) read disk line clock memory = tt
end_answer ends.TooLong read disk line clock memory = tt
end_answer ends.ClockFault read disk line clock memory = absurd (clock refl)
end_answer ends.DiskFault read disk line clock memory = absurd (disk refl)
end_answer ends.LineFault read disk line clock memory = absurd (line refl)
end_answer ends.NoJournal read disk line clock memory = tt
end_answer (ends.Damaged place) read disk line clock memory = tt
end_answer (ends.JournalFull tail need) read disk line clock memory = tt
end_answer ends.NoMemory read disk line clock memory = absurd (memory refl)

answer_by : (end : Result (Unit {0}) SessionEnd) → (status_of end ≢ statuses.ReadFault) → (status_of end ≢ statuses.DiskFault) → (status_of end ≢ statuses.LineFault) → (status_of end ≢ statuses.ClockFault)
    → (status_of end ≢ statuses.NoMemory) → SessionAnswer (status_of end)
answer_by (Ok done) read disk line clock memory = tt
answer_by (Err end) read disk line clock memory = end_answer end read disk line clock memory

-- where no call fails and memory is there
pub session_answer : (end : Result (Unit {0}) SessionEnd) (status : Status) → status ≡ status_of end → (status ≢ statuses.ReadFault) → (status ≢ statuses.DiskFault) → (status ≢ statuses.LineFault)
    → (status ≢ statuses.ClockFault) → (status ≢ statuses.NoMemory) → SessionAnswer status
session_answer end status told read disk line clock memory =
    subst SessionAnswer (sym told)
    (answer_by end (λ is. read (told ∙ is)) (λ is. disk (told ∙ is)) (λ is. line (told ∙ is)) (λ is. clock (told ∙ is)) (λ is. memory (told ∙ is)))
