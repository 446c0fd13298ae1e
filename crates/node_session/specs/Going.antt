-- A session that goes on: the frames that arrived are handled.
use Rattle.std.specs.Prelude.{◌≡◌, ℕ, ◌+◌, ◌-◌, ◌≤◌, List, length, Bool, true, false, Result, Ok, Err}
use Rattle.std.specs.List.{AllByRecursion}
use Rattle.std.specs.Io.KnownBytes.{Consumes, append_known}
use Rattle.site_core.specs.Log.{reads, NothingPending}
use Rattle.site_core.specs.Told.{Told, Goes, Counted}
use Rattle.framed_input.specs.Intake.{Intake}
use Rattle.framed_input.specs.Limits.{greatest_input}
use Rattle.framed_input.specs.Reading.{HasRead}
use Rattle.journaled_steps.specs.Node.{Node, IsLive}
use Rattle.line_sessions.specs.declared.ends.SessionEnd.{SessionEnd}
use Rattle.line_sessions.specs.declared.ends.SessionEnd.TheVariants as ends
use Rattle.line_sessions.specs.Plays.{PlaysOut}
use Rattle.node_session.specs.Kinds.{Kind, KeptStands, events, part_of}
use Rattle.node_session.specs.Ending.{kept_at}
use Rattle.node_session.specs.Serving.{Session}
use Rattle.node_session.specs.Views.{View, frames_of}

-- all that came is done, and the node is ready for more
pub record IsReady {O E X A K : Type 0} (kind : Kind O E X A K) (kept : K) (arrivals : List A) (node : Node O E) (old new : Told) : Type 0 where
  pub plays : PlaysOut (part_of kind) kept (events arrivals) old new
  pub live : IsLive kind.rules node new
  pub list : node.list ≡ kind.list_of (kept_at kind kept arrivals)
  pub last : node.last ≡ kind.recent_of (kept_at kind kept arrivals)

-- so it is where nothing was pending and the image stood for a list
pub record GoesOn {O E X A K : Type 0} (kind : Kind O E X A K) (arrivals : List A) (node : Node O E) (old new : Told) : Type 0 where
  pub counted : Counted old new
  pub ready : (kept : K) → NothingPending old.log → KeptStands kind (reads old.log) kept → IsReady kind kept arrivals node old new

-- these bytes were taken and these frames arrived since the start, and all of them are handled
pub record Going {O E X A K : Type 0} (kind : Kind O E X A K) (start : View) (intake : Intake) (node : Node O E) (now : View) : Type 0 where
  pub bytes : List ℕ
  pub arrivals : List A
  pub taken : Consumes start.left now.left bytes
  pub few : length bytes ≤ greatest_input + 1
  pub read : HasRead bytes (frames_of kind arrivals) intake
  pub given : now.given ≡ append_known start.given (kind.readings_of arrivals)
  pub each : AllByRecursion kind.IsArrival arrivals
  pub site : Goes start.site now.site (GoesOn kind arrivals node)

-- how many bytes may still be handed out
abbrev pub still_to_come : Intake → ℕ
still_to_come intake = (greatest_input + 1 - intake.taken) + length intake.held

-- the answer of a part of a session, without whether a frame came
abbrev pub end_of : Result Bool SessionEnd → Result (Unit {0}) SessionEnd
end_of (Ok came) = Ok tt
end_of (Err end) = Err end

-- the session goes on after a frame, and comes to its end where none came or at the first fault
abbrev pub TakesNext : {O E X A K : Type 0} → Kind O E X A K → Result Bool SessionEnd → View → Intake → Node O E → View → Type 0
TakesNext kind (Ok true) start intake node now = Going kind start intake node now
TakesNext kind (Ok false) start intake node now = Session kind (Ok tt) start now
TakesNext kind (Err end) start intake node now = Session kind (Err end) start now

abbrev pub HandlesNext : {O E X A K : Type 0} → Kind O E X A K → Result (Unit {0}) SessionEnd → View → Intake → Node O E → View → Type 0
HandlesNext kind (Ok done) start intake node now = Going kind start intake node now
HandlesNext kind (Err end) start intake node now = Session kind (Err end) start now

-- what ends a session while a frame is handled
abbrev pub IsStepEnd : SessionEnd → Type 0
IsStepEnd ends.ReadFault = ⊥
IsStepEnd (ends.Frame fault) = ⊥
IsStepEnd ends.TooLong = ⊥
IsStepEnd ends.NoJournal = ⊥
IsStepEnd (ends.Damaged place) = ⊥
IsStepEnd other = Unit {0}

-- what ends a session that was opened
abbrev pub IsLaterEnd : SessionEnd → Type 0
IsLaterEnd ends.NoJournal = ⊥
IsLaterEnd (ends.Damaged place) = ⊥
IsLaterEnd other = Unit {0}
