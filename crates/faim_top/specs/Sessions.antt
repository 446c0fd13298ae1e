-- A session of the host or of the bank that a journal keeps.
use Rattle.std.specs.Prelude.{◌≡◌, ℕ, List, Option, IfSome, Result, Ok, Err}
use Rattle.site_core.specs.Log.{reads}
use Rattle.site_core.specs.Told.{Goes}
use Rattle.line_sessions.specs.declared.ends.SessionEnd.{SessionEnd}
use Rattle.line_sessions.specs.declared.ends.SessionEnd.TheVariants as ends
use Rattle.node_session.specs.Ending.{AnswersImage, EndReason, Opens}
use Rattle.node_session.specs.Kinds.{Kind}
use Rattle.node_session.specs.Serving.{Session}
use Rattle.faim_top.specs.declared.status.Status.{Status}
use Rattle.faim_top.specs.declared.status.Status.TheVariants as statuses
use Rattle.faim_top.specs.declared.status.Reason.TheVariants as reasons
use Rattle.faim_top.specs.Views.{Views, first_view, last_view}

-- the status that tells how a session ends
abbrev pub status_by : SessionEnd → Status
status_by ends.ReadFault = statuses.ReadFault
status_by (ends.Frame fault) = statuses.Refused (reasons.Frame fault)
status_by ends.TooLong = statuses.Refused reasons.TooLong
status_by ends.ClockFault = statuses.ClockFault
status_by ends.DiskFault = statuses.DiskFault
status_by ends.LineFault = statuses.LineFault
status_by ends.NoJournal = statuses.NoJournal
status_by (ends.Damaged place) = statuses.Damaged place
status_by (ends.JournalFull tail need) = statuses.JournalFull tail need
status_by ends.NoMemory = statuses.NoMemory

abbrev pub status_of : Result (Unit {0}) SessionEnd → Status
status_of (Ok done) = statuses.Done
status_of (Err end) = status_by end

-- a session that ended so: what came, what stands at its end and at each moment of it, what the answer says of the image, and why
-- a call failed
pub record SessionEnded {O E X A K : Type 0} (kind : Kind O E X A K) (status : Status) (v : Views) : Type 0 where
  pub end : Result (Unit {0}) SessionEnd
  pub told : status ≡ status_of end
  pub session : Session kind end (first_view v) (last_view v)
  pub says : Goes v.site.before v.site.after (Opens kind end)
  pub image : IfSome v.site.before (λ told. AnswersImage kind (reads told.log) end)
  pub reason : Goes v.site.before v.site.after (EndReason end)

-- the statuses of a session where no call fails and memory is there
abbrev pub SessionAnswer : Status → Type 0
SessionAnswer statuses.Done = Unit {0}
SessionAnswer (statuses.Refused why) = Unit {0}
SessionAnswer (statuses.Damaged place) = Unit {0}
SessionAnswer (statuses.JournalFull tail need) = Unit {0}
SessionAnswer statuses.NoJournal = Unit {0}
SessionAnswer other = ⊥
