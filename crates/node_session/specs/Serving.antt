-- A whole session of a node.
use Rattle.std.specs.Prelude.{ℕ, List, Result}
use Rattle.site_core.specs.Log.{reads, NothingPending}
use Rattle.site_core.specs.Told.{Told, Goes}
use Rattle.line_sessions.specs.declared.ends.SessionEnd.{SessionEnd}
use Rattle.line_sessions.specs.Plays.{Plays}
use Rattle.node_session.specs.Kinds.{Kind, KeptStands, events, part_of}
use Rattle.node_session.specs.Views.{View, HasCome}
use Rattle.node_session.specs.Ending.{EndsInput, EndsSite}

-- each moment is one of the session, and its end is as the answer says
pub record Serves {O E X A K : Type 0} (kind : Kind O E X A K) (result : Result (Unit {0}) SessionEnd) (kept : K) (arrivals : List A) (old new : Told) : Type 0 where
  pub plays : Plays (part_of kind) kept (events arrivals) old new
  pub ended : EndsSite kind result kept arrivals old new

-- where nothing is pending, and the image stands for a list
abbrev pub ServesAll : {O E X A K : Type 0} → Kind O E X A K → Result (Unit {0}) SessionEnd → List A → Told → Told → Type 0
ServesAll {K = K} kind result arrivals old new = (kept : K) → NothingPending old.log → KeptStands kind (reads old.log) kept → Serves kind result kept arrivals old new

-- these bytes were taken, and these frames arrived, the last of which may be handled in part
pub record Session {O E X A K : Type 0} (kind : Kind O E X A K) (result : Result (Unit {0}) SessionEnd) (old new : View) : Type 0 where
  pub bytes : List ℕ
  pub arrivals : List A
  pub came : HasCome kind arrivals bytes old new
  pub input : EndsInput kind result arrivals bytes new.left
  pub site : Goes old.site new.site (ServesAll kind result arrivals)
