use Rattle.std.proofs.Common.{◌≡◌, take}
use Rattle.host_index.specs.Index.{places_of}
use Rattle.host_index.proofs.Retrieving.{rest_from}
use Rattle.host_index.proofs.outputs.places_from.Given as goal

abbrev pub invariant-loop-step : goal.invariant-loop-step
invariant-loop-step l = l.places ≡ places_of (take l.step (rest_from l.first l.dest l.outputs.entries))
