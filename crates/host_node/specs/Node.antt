-- When an image is that of a host's journal.
use Rattle.std.specs.Prelude.{ℕ, List}
use Rattle.host_ledger.specs.declared.config.Config.{Config}
use Rattle.host_ledger.specs.declared.entries.Entry.{Entry}
use Rattle.journaled_list.specs.Payloads.{Stands}
use Rattle.host_node.specs.HostList.{host_rules}

-- the image stands for this configuration and these entries, of which the last record has so many
abbrev pub HostStands : List ℕ → Config → List Entry → ℕ → Type 0
HostStands image c es r = Stands host_rules image (record { opening = c; entries = es }) r
