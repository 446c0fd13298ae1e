use Rattle.std.proofs.Common.{◌≡◌, ◌+◌, ◌≤◌, ◌++◌, drop}
use Rattle.faim_top.specs.Replay.{entries_after, outcomes_of, outcome_lines}
use Rattle.faim_top.proofs.play.play.Given as goal

-- what is done and printed so far, and what is left
abbrev pub invariant-loop-event : goal.invariant-loop-event
invariant-loop-event l = record {
  config : l.state.config ≡ l.fn.state.config;
  entries : entries_after l.fn.state.config l.state.entries l.reading (drop l.event-index l.events) ≡ entries_after l.fn.state.config l.fn.state.entries l.fn.opening l.events;
  lines : l.out.items ++ outcome_lines l.number (outcomes_of l.fn.state.config l.state.entries l.reading (drop l.event-index l.events)) ≡ l.fn.out.items ++ outcome_lines 1 (outcomes_of l.fn.state.config l.fn.state.entries l.fn.opening l.events);
  number : l.number ≤ l.event-index + 1;
}
