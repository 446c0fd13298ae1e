use Rattle.std.proofs.Common.{◌≡◌, ◌+◌, ◌≤◌, [], length}
use Rattle.host_ledger.specs.Accounts.{endpoints_of}
use Rattle.world_text.specs.Lines.{lines_of}
use Rattle.world_text.specs.Grammar.{accounts_from}
use Rattle.world_text.proofs.reader.read_accounts.Given as goal

-- the accounts so far and the lines that are left give what all lines give
abbrev pub invariant-loop-alloc : goal.invariant-loop-alloc
invariant-loop-alloc l = record {
  all : accounts_from l.config l.accounts l.next (lines_of l.rest) ≡ accounts_from l.config [] 2 (lines_of l.text);
  served : l.endpoints ≡ endpoints_of l.accounts;
  room : l.next + length l.rest ≤ 2 + length l.text;
}

abbrev pub decreases-loop-alloc : goal.decreases-loop-alloc
decreases-loop-alloc l = length l.rest
