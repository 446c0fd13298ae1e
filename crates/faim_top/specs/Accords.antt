-- What a bank's session keeps of its host.
use Rattle.std.specs.Prelude.{ℕ, List, Option}
use Rattle.site_core.specs.Told.{Told, Goes}
use Rattle.host_ledger.specs.declared.config.Config.{Config}
use Rattle.host_ledger.specs.declared.entries.Entry.{Entry}
use Rattle.bank_session.specs.Trust.{IsTrustedInput, KeepsAccord}

-- whatever host covers the acknowledgements and outputs of the input: where the bank was in accord with it, so it is whatever a
-- stop leaves
abbrev pub StaysInAccord : List ℕ → Option Told → Option Told → Type 0
StaysInAccord whole old new = (c : Config) (es : List Entry) → IsTrustedInput c es whole → Goes old new (KeepsAccord c es)
