-- The item that the entry at a place gives an endpoint.
use Rattle.std.specs.Prelude.{ℕ, ◌==◌, List, Option, option_map}
use Rattle.std.specs.List.{find}
use Rattle.faim_base.specs.declared.ids.OutPos.{OutPos}
use Rattle.host_ledger.specs.declared.config.Config.{Config}
use Rattle.host_ledger.specs.declared.entries.Entry.{Entry}
use Rattle.faim_model.specs.Outputs.{Item, outputs}

-- the item of the endpoint's outputs whose entry stands at the place
abbrev pub item_at : Config → List Entry → List ℕ → ℕ → Option Item
item_at c es e place = find (λ i. i.place == place) (outputs c es e)

-- its position
abbrev pub position_at : Config → List Entry → List ℕ → ℕ → Option OutPos
position_at c es e place = option_map (λ i. i.at) (item_at c es e place)
