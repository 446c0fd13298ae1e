-- What goes to an endpoint, the oldest first.
use Rattle.std.specs.Prelude.{ℕ, ◌+◌, ◌==◌, Bool, List, [], ◌∷◌, ◌++◌, length, take, map, filter, bytes_eq, if◌then◌else◌}
use Rattle.faim_base.specs.declared.ids.OutPos.{OutPos}
use Rattle.faim_base.specs.declared.judgement.Verdict.TheVariants.{Taken, Refused}
use Rattle.faim_base.specs.Ids.{is_up_to}
use Rattle.host_ledger.specs.declared.config.Config.{Config}
use Rattle.host_ledger.specs.declared.entries.Entry.{Entry}
use Rattle.host_ledger.specs.declared.entries.Entry.TheVariants.{Posted, Roll}
use Rattle.host_ledger.specs.Accounts.{has_endpoint}
use Rattle.host_ledger.specs.Lists.{counted}
use Rattle.host_ledger.specs.Sums.{cycle}

-- an output: its position, and the entry that gives it with its place, the oldest entry being at 0
pub record Item : Type 0 where
  pub at : OutPos
  pub place : ℕ
  pub entry : Entry

-- the item stands under this date
abbrev pub is_under : ℕ → Item → Bool
is_under date i = i.at.date == date

-- how many items stand under this date
abbrev pub count_under : ℕ → List Item → ℕ
count_under date items = counted (is_under date) items

-- the item where the test holds, and else none
abbrev pub one_if : Bool → Item → List Item
one_if b i = if b then i ∷ [] else []

-- what an entry gives an endpoint, with the entries before it and what they gave: an accepted message goes to its
-- destination under its own date, and a Roll ends the cycle of every endpoint
abbrev pub item_of : Config → List Entry → List Item → Entry → List ℕ → List Item
item_of c older before (Posted h body resent moment (Taken dest seq)) e =
    one_if (bytes_eq dest e)
    (record { at = record { date = h.imad.date; seq = seq }; place = length older; entry = Posted h body resent moment (Taken dest seq) })
item_of c older before (Posted h body resent moment (Refused why)) e = []
item_of c older before (Roll moment date) e =
    one_if (has_endpoint c.accounts e)
    (record { at = record { date = cycle c older; seq = count_under (cycle c older) before + 1 }; place = length older; entry = Roll moment date })

-- all that goes to an endpoint
abbrev pub outputs : Config → List Entry → List ℕ → List Item
outputs c [] e = []
outputs c (x ∷ older) e = outputs c older e ++ item_of c older (outputs c older e) x e

-- how many items an endpoint has in the present cycle
abbrev pub sent_in_cycle : Config → List Entry → List ℕ → ℕ
sent_in_cycle c es e = count_under (cycle c es) (outputs c es e)

-- at a position or after it
abbrev pub is_from : OutPos → Item → Bool
is_from p i = is_up_to p i.at

-- what a retrieval gives: the first 64 items at a position or after it
abbrev pub retrieved : Config → List Entry → List ℕ → OutPos → List Item
retrieved c es e p = take 64 (filter (is_from p) (outputs c es e))

-- the places of items
abbrev pub places_of : List Item → List ℕ
places_of items = map (λ (i : Item). i.place) items
