use Rattle.std.proofs.Common.{◌≡◌, ◌++◌, take}
use Rattle.bank_turns.specs.BankSteps.{reminded}
use Rattle.bank_node.proofs.Reminded.{submitted}
use Rattle.bank_node.proofs.reminding.submit_again.Given as goal

-- the submissions of the drafts at the places so far
abbrev pub invariant-loop-number : goal.invariant-loop-number
invariant-loop-number l = l.outbox ≡ l.fn.outbox ++ submitted (take l.number (reminded l.list.entries))
