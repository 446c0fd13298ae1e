-- A list whose item is lent for writing.
use Rattle.std.specs.Prelude.{ℕ, List, Option, slice_set}
use Rattle.std.specs.Borrow.{LendsIf, MutBor, RattleType, Fml}
use Rattle.faim_base.specs.contracts.lists.Items.{the_row}

-- the list ends with the item at a place as it was left, and as it was where there is none
abbrev pub LendsItem : (T : RattleType) → MutBor (List T.Denot) → ℕ → Option (MutBor T.Denot) → Fml
LendsItem T list at r = LendsIf (the_row T) T list r (slice_set list.now at) list.now
