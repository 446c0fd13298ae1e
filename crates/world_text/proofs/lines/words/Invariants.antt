use Rattle.std.proofs.Common.{◌≡◌, ◌-◌, ◌++◌, map}
use Rattle.world_text.specs.Lines.{words_of}
use Rattle.world_text.proofs.lines.words.Given as goal

abbrev pub invariant-loop : goal.invariant-loop
invariant-loop l = map (λ w. w.now) l.words.items ++ words_of (l.most - l.counter) l.rest ≡ words_of l.most l.line
