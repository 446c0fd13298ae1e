-- Frames that arrive at a host together, and what it does with them.
use Rattle.std.specs.Prelude.{ℕ, ◌≤◌, List, [], ◌∷◌, ◌++◌, length, map}
use Rattle.std.specs.List.{AllByRecursion, flat_map}
use Rattle.std.specs.Option.{option_to_list}
use Rattle.faim_base.specs.Numbers.{IsMoment}
use Rattle.link_frames.specs.Frames.{Content as Frame, IsFrame}
use Rattle.host_ledger.specs.declared.config.Config.{Config}
use Rattle.host_ledger.specs.declared.entries.Entry.{Entry}
use Rattle.faim_model.specs.Sending.{frames_of}
use Rattle.faim_model.specs.Sessions.{Arrival, entries_with, frames_at}
use Rattle.faim_model.specs.Steps.{host_step}

-- frames in their order, and the one reading of the clock at which the host takes all of them
pub record Group : Type 0 where
  pub frames : List Frame
  pub reading : ℕ

-- at least one frame, and a reading of the calendar
pub record IsGroup (g : Group) : Type 0 where
  pub some : 1 ≤ length g.frames
  pub each : AllByRecursion IsFrame g.frames
  pub timed : IsMoment g.reading

-- its frames as arrivals of their own, each at the group's reading; and those of several groups
abbrev pub arrivals_in : Group → List Arrival
arrivals_in g = map (λ f. record { frame = f; reading = g.reading }) g.frames

abbrev pub arrivals_of : List Group → List Arrival
arrivals_of groups = flat_map arrivals_in groups

-- the entries that arrivals add, the newest first
abbrev pub entries_by : Config → List Entry → List Arrival → List Entry
entries_by c es [] = []
entries_by c es (a ∷ later) = entries_by c (entries_with c es a) later ++ option_to_list (host_step c es a.frame a.reading).adds

-- the entries that are added, the newest first, and the frames in their order
pub record GroupStep : Type 0 where
  pub adds : List Entry
  pub sends : List Frame

-- what a host does with a group: its step over each frame, with the entries that those before it added
abbrev pub group_step : Config → List Entry → Group → GroupStep
group_step c es g = record { adds = entries_by c es (arrivals_in g); sends = frames_at c es (arrivals_in g) }

-- the entries after a group
abbrev pub entries_after_group : Config → List Entry → Group → List Entry
entries_after_group c es g = (group_step c es g).adds ++ es

-- how many entries the last record has: all those of the group, or as many as before where it added none
abbrev pub recent_by : ℕ → List Entry → ℕ
recent_by r [] = r
recent_by r (x ∷ older) = length (x ∷ older)

abbrev pub recent_after_groups : Config → List Entry → ℕ → List Group → ℕ
recent_after_groups c es r [] = r
recent_after_groups c es r (g ∷ later) = recent_after_groups c (entries_after_group c es g) (recent_by r (group_step c es g).adds) later

-- the frames of newer entries at their first sending, the oldest entry's first
abbrev pub first_sent : Config → List Entry → List Entry → List Frame
first_sent c es [] = []
first_sent c es (x ∷ newer) = first_sent c es newer ++ frames_of c (newer ++ es) x 32
