-- What a ledger's table holds, in the order of the accounts.
use Rattle.std.specs.Prelude.{ℕ, List, [], ◌∷◌, map, bytes_eq, if◌then◌else◌, ℤ}
use Rattle.std.specs.Int.{int_wrapping_add, w128}
use Rattle.host_ledger.specs.declared.config.Account.{Account}
use Rattle.host_ledger.specs.declared.config.Config.{Config}
use Rattle.host_ledger.specs.declared.entries.Entry.{Entry}
use Rattle.host_ledger.specs.declared.funds.Funds.{Funds}
use Rattle.host_ledger.specs.Ledgers.{Row}
use Rattle.host_ledger.specs.Sums.{balance}

abbrev pub row_of : List ℕ × Funds → Row
row_of e = record { aba = e.0; endpoint = e.1.endpoint; floor = e.1.floor; balance = e.1.balance }

abbrev pub rows_in : List (List ℕ × Funds) → List Row
rows_in es = map row_of es

-- the row of an account before any entry
abbrev pub opened : Account → Row
opened a = record { aba = a.aba; endpoint = a.endpoint; floor = a.floor; balance = a.opening }

-- what is kept of an account after these entries
abbrev pub funds_after : Config → List Entry → Account → Funds
funds_after c es a = record { endpoint = a.endpoint; floor = a.floor; balance = balance c es a.aba }

-- a balance with cents more
abbrev pub with_cents : ℤ → Row → Row
with_cents cents r = record { aba = r.aba; endpoint = r.endpoint; floor = r.floor; balance = int_wrapping_add w128 r.balance cents }

-- the rows with cents more on the first account that has this number
abbrev pub added : List ℕ → ℤ → List Row → List Row
added aba cents [] = []
added aba cents (r ∷ rows) = if bytes_eq aba r.aba then with_cents cents r ∷ rows else r ∷ added aba cents rows
