use Rattle.std.proofs.Common.{◌≡◌, ◌+◌, ◌≤◌, [], length}
use Rattle.world_text.specs.Lines.{lines_of}
use Rattle.world_text.specs.Grammar.{events_from}
use Rattle.world_text.proofs.reader.read_events.Given as goal

-- the events so far and those that are left are all of them
abbrev pub invariant-loop-rest : goal.invariant-loop-rest
invariant-loop-rest l = record {
  all : events_from l.events l.number (lines_of l.rest) ≡ events_from [] l.first (lines_of l.text);
  room : l.number + length l.rest ≤ l.first + length l.text;
}

abbrev pub decreases-loop-rest : goal.decreases-loop-rest
decreases-loop-rest l = length l.rest
