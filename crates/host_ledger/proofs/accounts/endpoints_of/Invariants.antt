use Rattle.std.proofs.Common.{◌≡◌, take}
use Rattle.host_ledger.specs.Accounts.{endpoints_of}
use Rattle.host_ledger.proofs.accounts.endpoints_of.Given as goal

abbrev pub invariant-loop-place : goal.invariant-loop-place
invariant-loop-place l = l.endpoints ≡ endpoints_of (take l.place l.accounts)
