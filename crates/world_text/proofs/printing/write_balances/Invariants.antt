use Rattle.std.proofs.Common.{◌≡◌, ◌++◌, take}
use Rattle.world_text.specs.Report.{balance_lines}
use Rattle.world_text.proofs.printing.write_balances.Given as goal

abbrev pub invariant-loop-balance : goal.invariant-loop-balance
invariant-loop-balance l = l.out.items ≡ l.fn.out.items ++ balance_lines (take l.balance-index l.balances)
