use Rattle.faim_message.proofs.RemainingLemmas.{Moved}
use Rattle.faim_message.proofs.remaining.close_gap.Given as goal

abbrev pub invariant-loop-at : goal.invariant-loop-at
invariant-loop-at l = Moved l.initial.numbers l.numbers l.place l.at

abbrev pub decreases-loop-at : goal.decreases-loop-at
decreases-loop-at l = l.at
