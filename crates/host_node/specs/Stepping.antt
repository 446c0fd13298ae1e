-- A host's step over a frame, as a node takes it whose list a journal keeps.
use Rattle.std.specs.Prelude.{◌≡◌, ℕ}
use Rattle.link_frames.specs.Frames.{Content as Frame}
use Rattle.host_ledger.specs.declared.config.Config.{Config}
use Rattle.host_ledger.specs.declared.entries.Entry.{Entry}
use Rattle.faim_model.specs.declared.decisions.HostOutcome.{HostOutcome}
use Rattle.faim_model.specs.Steps.{HostStep, host_step}
use Rattle.host_core.specs.State.{State}
use Rattle.journaled_list.specs.Reading.{with_entry}
use Rattle.journaled_list.specs.Rules.{Listed}
use Rattle.journaled_steps.specs.Steps.{Step}
use Rattle.host_node.specs.HostList.{host_rules, listed}
use Rattle.host_node.specs.Preparing.{bytes_sent}

-- a host's step, with its frames as bytes
abbrev pub as_step : HostStep → Step Entry HostOutcome
as_step step = record { adds = step.adds; sends = bytes_sent step; outcome = step.outcome }

-- that of a host with this list, over a frame at a reading of the clock
abbrev pub step_of : Listed Config Entry → Frame → ℕ → Step Entry HostOutcome
step_of list f reading = as_step (host_step list.opening list.entries f reading)

-- a host's list is this one with this entry, which may come next
pub record HasNewest (s : State) (before : Listed Config Entry) (x : Entry) : Type 0 where
  pub is : listed s ≡ with_entry before x
  pub follows : host_rules.MayFollow before.opening before.entries x
