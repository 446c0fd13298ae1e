use Rattle.framed_input.proofs.InputFrames.{first_ones, short_input}
use Rattle.framed_input.proofs.laws.frames_come_in_order.Goals as goal

pub returns-clause-first : goal.returns-clause-first
returns-clause-first c = first_ones

pub returns-clause-short : goal.returns-clause-short
returns-clause-short c = short_input
