use Rattle.std.proofs.Common.{◌≡◌, ◌≤◌, length, take}
use Rattle.host_ledger.specs.Accounts.{endpoints_of}
use Rattle.host_ledger.proofs.soundness.count_endpoints.Given as goal

abbrev pub invariant-loop-place : goal.invariant-loop-place
invariant-loop-place l = record { counted : l.count ≡ length (endpoints_of (take l.place l.accounts)); below : l.count ≤ l.place }
