use Rattle.std.proofs.Common.{◌≡◌, ◌++◌, length, take, drop}
use Rattle.faim_message.specs.Forms.{between, ending}
use Rattle.faim_message.specs.Spelling.{joined}
use Rattle.faim_message.proofs.writing.append_tags.Given as goal

abbrev pub invariant-loop-k : goal.invariant-loop-k
invariant-loop-k l = record {
  on : l.out.items ++ joined (between l.breaks) (ending l.breaks) (drop l.k l.tags) ≡ l.initial.out.items ++ joined (between l.breaks) (ending l.breaks) l.tags;
  kept : take (length l.initial.out.items) l.out.items ≡ l.initial.out.items;
}
