-- A kind of node: what it keeps, what arrives at it, and what it does with that.
use Rattle.std.specs.Prelude.{◌≡◌, ℕ, List, [], ◌∷◌, ◌++◌, map}
use Rattle.link_frames.specs.Frames.{Content as Frame}
use Rattle.journaled_list.specs.Payloads.{Stands}
use Rattle.journaled_list.specs.Rules.{Rules, Listed}
use Rattle.journaled_steps.specs.Steps.{Step, last_after, list_with}
use Rattle.line_sessions.specs.Plays.{Part}

-- what a kind of node is: the openings and entries of its list, the outcomes of its steps, what arrives at it, and what it keeps
pub record Kind (O E X A K : Type 0) : Type 1 where
  pub rules : Rules O E
  -- what a resume sends again of a list whose last record has so many entries
  pub again : Listed O E → ℕ → List (List ℕ)
  -- the step over what arrives
  pub step : Listed O E → A → Step E X
  -- the list of what is kept, how many entries its last record has, and what is kept after something arrived
  pub list_of : K → Listed O E
  pub recent_of : K → ℕ
  pub after : K → A → K
  -- an arrival's frame, the readings of the clock that arrivals took, and what can arrive
  pub frame_of : A → Frame
  pub readings_of : List A → List ℕ
  pub IsArrival : A → Type 0

-- what is kept is what the step makes of the list, and each arrival takes its own readings
pub record IsFit {O E X A K : Type 0} (kind : Kind O E X A K) : Type 0 where
  pub list_after : (kept : K) (a : A) → kind.list_of (kind.after kept a) ≡ list_with (kind.step (kind.list_of kept) a).adds (kind.list_of kept)
  pub recent_after : (kept : K) (a : A) → kind.recent_of (kind.after kept a) ≡ last_after (kind.recent_of kept) (kind.step (kind.list_of kept) a).adds
  pub nothing_read : kind.readings_of [] ≡ []
  pub read_on : (arrivals : List A) (a : A) → kind.readings_of (arrivals ++ a ∷ []) ≡ kind.readings_of arrivals ++ kind.readings_of (a ∷ [])

-- what comes to a node: it is resumed, or something arrives
pub data Event (A : Type 0) : Type 0 where
  Resumed : Event A
  Came : (arrival : A) → Event A

-- what it keeps after an event
abbrev pub kept_after : {O E X A K : Type 0} → Kind O E X A K → K → Event A → K
kept_after kind kept Resumed = kept
kept_after kind kept (Came a) = kind.after kept a

-- the frames that it sends at an event, as bytes
abbrev pub sent_at : {O E X A K : Type 0} → Kind O E X A K → K → Event A → List (List ℕ)
sent_at kind kept Resumed = kind.again (kind.list_of kept) (kind.recent_of kept)
sent_at kind kept (Came a) = (kind.step (kind.list_of kept) a).sends

-- the image stands for what it keeps
abbrev pub KeptStands : {O E X A K : Type 0} → Kind O E X A K → List ℕ → K → Type 0
KeptStands kind image kept = Stands kind.rules image (kind.list_of kept) (kind.recent_of kept)

-- its part in its sessions
abbrev pub part_of : {O E X A K : Type 0} → Kind O E X A K → Part K (Event A)
part_of kind = record { Stands = KeptStands kind; after = kept_after kind; sends = sent_at kind }

-- the events of a session: the node is resumed, and then this arrives
abbrev pub events : {A : Type 0} → List A → List (Event A)
events arrivals = Resumed ∷ map Came arrivals
