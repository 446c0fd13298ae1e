-- A session of a host: what comes from its lines between a restart and the next one.
use Rattle.std.specs.Prelude.{ℕ, List, [], ◌∷◌, ◌++◌, Option, Some, None}
use Rattle.faim_base.specs.Numbers.{IsMoment}
use Rattle.link_frames.specs.Frames.{Content as Frame, IsFrame}
use Rattle.host_ledger.specs.declared.config.Config.{Config}
use Rattle.host_ledger.specs.declared.entries.Entry.{Entry}
use Rattle.faim_model.specs.Turns.{adds_to}
use Rattle.faim_model.specs.Sending.{resume_frames}
use Rattle.faim_model.specs.Steps.{host_step}

-- a frame, and the reading of the clock at which the host takes it
pub record Arrival : Type 0 where
  pub frame : Frame
  pub reading : ℕ

-- it is a frame, and the reading is a moment of the calendar
pub record IsArrival (a : Arrival) : Type 0 where
  pub sound : IsFrame a.frame
  pub timed : IsMoment a.reading

-- the entries after one arrival, and after several in their order
abbrev pub entries_with : Config → List Entry → Arrival → List Entry
entries_with c es a = adds_to (host_step c es a.frame a.reading).adds es

abbrev pub entries_after : Config → List Entry → List Arrival → List Entry
entries_after c es [] = es
entries_after c es (a ∷ later) = entries_after c (entries_with c es a) later

-- all frames that the host sends at these arrivals
abbrev pub frames_at : Config → List Entry → List Arrival → List Frame
frames_at c es [] = []
frames_at c es (a ∷ later) = (host_step c es a.frame a.reading).sends ++ frames_at c (entries_with c es a) later

-- how many entries the last record has: the one that was added, or as many as before
abbrev pub recent_with : ℕ → Option Entry → ℕ
recent_with r None = r
recent_with r (Some x) = 1

abbrev pub recent_after : Config → List Entry → ℕ → List Arrival → ℕ
recent_after c es r [] = r
recent_after c es r (a ∷ later) = recent_after c (entries_with c es a) (recent_with r (host_step c es a.frame a.reading).adds) later

-- all frames of a session: first those of the last record again, and then those of its arrivals
abbrev pub session_frames : Config → List Entry → ℕ → List Arrival → List Frame
session_frames c es r arrivals = resume_frames c es r ++ frames_at c es arrivals
