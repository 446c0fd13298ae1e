-- A host as a kind of node: what it keeps, what arrives at it, and what it does with that.
use Rattle.std.specs.Prelude.{ℕ, List, map}
use Rattle.host_ledger.specs.declared.config.Config.{Config}
use Rattle.host_ledger.specs.declared.entries.Entry.{Entry}
use Rattle.faim_model.specs.declared.decisions.HostOutcome.{HostOutcome}
use Rattle.faim_model.specs.Sessions.{Arrival, IsArrival, entries_with, recent_with}
use Rattle.faim_model.specs.Steps.{HostStep, host_step}
use Rattle.journaled_list.specs.Rules.{Listed}
use Rattle.journaled_steps.specs.Steps.{Step}
use Rattle.host_node.specs.HostList.{host_rules, sent_again}
use Rattle.host_node.specs.Stepping.{as_step}
use Rattle.line_sessions.specs.Plays.{Part}
use Rattle.node_session.specs.Kinds.{Event, Kind, part_of}

-- a host's configuration, its entries, the newest first, and how many of them its last record has
pub record Kept : Type 0 where
  pub config : Config
  pub entries : List Entry
  pub recent : ℕ

-- what is kept as a list
abbrev pub list_of : Kept → Listed Config Entry
list_of kept = record { opening = kept.config; entries = kept.entries }

-- the host's step at an arrival, and the step of a host with a list, its frames as bytes
abbrev pub step_of : Kept → Arrival → HostStep
step_of kept a = host_step kept.config kept.entries a.frame a.reading

abbrev pub step_at : Listed Config Entry → Arrival → Step Entry HostOutcome
step_at list a = as_step (host_step list.opening list.entries a.frame a.reading)

-- what it keeps after an arrival
abbrev pub kept_with : Kept → Arrival → Kept
kept_with kept a = record { config = kept.config; entries = entries_with kept.config kept.entries a; recent = recent_with kept.recent (step_of kept a).adds }

-- a resume sends the frames of the last record again; each frame arrives at a reading of the clock
abbrev pub host_kind : Kind Config Entry HostOutcome Arrival Kept
host_kind = record {
  rules = host_rules;
  again = sent_again;
  step = step_at;
  list_of = list_of;
  recent_of = λ kept. kept.recent;
  after = kept_with;
  frame_of = λ a. a.frame;
  readings_of = λ arrivals. map (λ a. a.reading) arrivals;
  IsArrival = IsArrival;
}

abbrev pub host_part : Part Kept (Event Arrival)
host_part = part_of host_kind
