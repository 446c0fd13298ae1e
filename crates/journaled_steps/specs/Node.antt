-- A node that keeps its list in a journal, as contracts see it, and when it may take its next step.
use Rattle.std.specs.Prelude.{◌≡◌, ℕ, Bool, true}
use Rattle.site_core.specs.Told.{Told}
use Rattle.journaled_list.specs.declared.kept.Kept.{Kept}
use Rattle.journaled_list.specs.Rules.{Rules, Listed}
use Rattle.journaled_list.specs.Loading.{Found}
use Rattle.journaled_list.specs.Ready.{IsReady}

-- its list, how many entries the last record has, the place after the tail gate, and whether it may take steps
pub record Node (O E : Type 0) : Type 0 where
  pub list : Listed O E
  pub last : ℕ
  pub tail : ℕ
  pub live : Bool

-- what its journal keeps
abbrev pub found_of : {O E : Type 0} → Node O E → Found O E
found_of node = record { list = node.list; last = node.last; tail = node.tail }

-- a node of this list, whose last record and tail are those of a list in its journal
abbrev pub node_with : {L O E : Type 0} → Listed O E → Kept L → Bool → Node O E
node_with list kept live = record { list = list; last = kept.last; tail = kept.journal; live = live }

-- the condition of the next step: the node may take it, the image stands for its list, nothing is pending, and its tail is
-- that of the image
pub record IsLive {O E : Type 0} (rules : Rules O E) (node : Node O E) (told : Told) : Type 0 where
  pub live : node.live ≡ true
  pub ready : IsReady rules (found_of node) told
