use Rattle.std.proofs.Common.{◌↔◌, drop}
use Rattle.std.specs.List.{AllByRecursion}
use Rattle.host_ledger.specs.Soundness.{IsAccount}
use Rattle.host_ledger.proofs.soundness.are_each_sound.Given as goal

-- the accounts are sound where those that are left are
abbrev pub invariant-loop-account : goal.invariant-loop-account
invariant-loop-account l = AllByRecursion IsAccount (drop l.account-index l.accounts) ↔ AllByRecursion IsAccount l.accounts
