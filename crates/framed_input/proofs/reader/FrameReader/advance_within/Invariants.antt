use Rattle.std.proofs.Common.{◌≡◌, ◌⊎◌, ◌+◌, ◌-◌, ◌<◌, true}
use Rattle.framed_input.specs.Standing.{stands}
use Rattle.framed_input.specs.Taking.{Takes}
use Rattle.framed_input.proofs.reader.FrameReader.advance_within.Given as goal

-- the reads so far took these bytes and none failed; there were none where something stood from the start
abbrev pub invariant-loop-answer : goal.invariant-loop-answer
invariant-loop-answer g l = record {
  takes : Takes l.limit (g.I.Source.left l.fn.input) (g.I.Source.left l.input) l.fn.self l.self;
  kept : g.I.Source.read_faults l.input ≡ g.I.Source.read_faults l.fn.input;
  stays : (stands l.fn.self.held ≡ true) ⊎ (l.limit < l.fn.self.taken) → (l.self ≡ l.fn.self) × (l.input ≡ l.fn.input);
}

abbrev pub decreases-loop-answer : goal.decreases-loop-answer
decreases-loop-answer g l = l.limit + 1 - l.self.taken
