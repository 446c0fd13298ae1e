use Rattle.std.proofs.Common.{◌≡◌, map, take}
use Rattle.host_ledger.specs.Tables.{opened, rows_in}
use Rattle.host_ledger.proofs.funds.open.Given as goal

-- the accounts so far are in the table
abbrev pub invariant-loop-account : goal.invariant-loop-account
invariant-loop-account l = rows_in l.table.entries ≡ map opened (take l.account-index l.accounts)
