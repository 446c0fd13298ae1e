use Rattle.std.proofs.Common.{◌≡◌, ◌≤◌, ◌+◌, ◌++◌, length, take, drop}
use Rattle.std.specs.Prelude.{IsTrue}
use Rattle.indexmap.specs.IndexMap.{spare}
use Rattle.host_index.specs.Index.{are_above, outputs_at}
use Rattle.host_index.specs.Tables.{AreNumbered, outputs_in}
use Rattle.host_index.proofs.outputs.put_all.Given as goal

abbrev pub invariant-loop-end : goal.invariant-loop-end
invariant-loop-end l = record {
  numbered : AreNumbered l.outputs.entries;
  above : IsTrue (are_above l.place (drop l.end-index l.ends) (outputs_in l.outputs.entries));
  outputs : outputs_in l.outputs.entries ≡ outputs_in l.initial.outputs.entries ++ outputs_at l.place (take l.end-index l.ends);
  room : length l.ends ≤ spare l.outputs + l.end-index;
}
