-- What a host knows: its configuration and its entries, the newest first.
use Rattle.std.specs.Prelude.{ℕ, nat_le, List, [], ◌∷◌, Option, Some, None, if◌then◌else◌}
use Rattle.faim_model.specs.Outputs.{Item}
use Rattle.host_ledger.specs.Sums.{cycle}
use Rattle.host_ledger.specs.declared.config.Config.{Config}
use Rattle.host_ledger.specs.declared.entries.Entry.{Entry}
use Rattle.host_core.specs.declared.rolls.RollCase.{RollCase}
use Rattle.host_core.specs.declared.rolls.RollCase.TheVariants.{Later, NotLater}

pub record State : Type 0 where
  pub config : Config
  pub entries : List Entry

-- a Roll goes on to a date that is later than the present cycle, and to no other
abbrev pub roll_case : Config → List Entry → ℕ → RollCase
roll_case c es date = if nat_le date (cycle c es) then NotLater (cycle c es) else Later

-- the date of the first item
abbrev pub date_in : List Item → Option ℕ
date_in [] = None
date_in (i ∷ items) = Some i.at.date
