-- What a host keeps beside its list, so that it needn't search it: what each part stands for.
use Rattle.std.specs.Prelude.{◌≡◌, ℕ, ◌+◌, List, [], ◌∷◌, ◌++◌, length, map, bytes_eq, if◌then◌else◌, Option, Some, None}
use Rattle.std.specs.Option.{option_to_list}
use Rattle.faim_base.specs.declared.ids.OutPos.{OutPos}
use Rattle.faim_base.specs.declared.judgement.Head.{Head}
use Rattle.faim_base.specs.declared.judgement.Verdict.{Verdict}
use Rattle.faim_base.specs.declared.judgement.Verdict.TheVariants.{Taken, Refused}
use Rattle.host_ledger.specs.declared.config.Config.{Config}
use Rattle.host_ledger.specs.declared.entries.Entry.{Entry}
use Rattle.host_ledger.specs.declared.entries.Entry.TheVariants.{Posted, Roll}
use Rattle.host_ledger.specs.Accounts.{endpoints_of}
use Rattle.host_ledger.specs.Ledgers.{Row, Stands}
use Rattle.host_ledger.specs.Sums.{cycle}
use Rattle.host_index.specs.Index as indexed
use Rattle.host_index.specs.Index.{Index, Output, outputs_at}
use Rattle.faim_model.specs.Outputs.{sent_in_cycle}

-- the identifiers that entries post, the oldest first, each with its entry's place
abbrev pub posted_in : List Entry → List indexed.Posted
posted_in [] = []
posted_in (Posted h body resent moment v ∷ older) = posted_in older ++ record { imad = h.imad; place = length older } ∷ []
posted_in (Roll moment date ∷ older) = posted_in older

-- the ends of the present cycle, one for each endpoint, with the next number of each
abbrev pub ends_after : Config → List Entry → List (List ℕ × OutPos)
ends_after c older = map (λ e. (e, record { date = cycle c older; seq = sent_in_cycle c older e + 1 })) (endpoints_of c.accounts)

-- the output that a message with this verdict gives, if any: to whom, and at which position
abbrev pub output_by : Head → Verdict → Option (List ℕ × OutPos)
output_by h (Taken dest seq) = Some (dest, record { date = h.imad.date; seq = seq })
output_by h (Refused why) = None

-- the endpoint that such a message goes to, if any
abbrev pub dest_by : Verdict → Option (List ℕ)
dest_by (Taken dest seq) = Some dest
dest_by (Refused why) = None

-- the position of what it gives an endpoint
abbrev pub position_by : Head → Verdict → List ℕ → Option OutPos
position_by h (Taken dest seq) e = if bytes_eq dest e then Some (record { date = h.imad.date; seq = seq }) else None
position_by h (Refused why) e = None

-- what an entry gives after those before it
abbrev pub given_by : Config → List Entry → Entry → List (List ℕ × OutPos)
given_by c older (Posted h body resent moment v) = option_to_list (output_by h v)
given_by c older (Roll moment date) = ends_after c older

-- all that entries give, the oldest first
abbrev pub given_in : Config → List Entry → List Output
given_in c [] = []
given_in c (x ∷ older) = given_in c older ++ outputs_at (length older) (given_by c older x)

-- the index of entries
abbrev pub index_of : Config → List Entry → Index
index_of c es = record { posted = posted_in es; outputs = given_in c es }

-- the cycle dates before each entry and after the newest, the oldest first
abbrev pub cycles_of : Config → List Entry → List ℕ
cycles_of c [] = c.date ∷ []
cycles_of c (x ∷ older) = cycles_of c older ++ cycle c (x ∷ older) ∷ []

-- each part is that of the configuration and the entries
pub record Kept (c : Config) (es : List Entry) (ledger : List Row) (index : Index) (cycles : List ℕ) (endpoints : List (List ℕ)) : Type 0 where
  pub balances : Stands ledger c es
  pub places : index ≡ index_of c es
  pub dates : cycles ≡ cycles_of c es
  pub banks : endpoints ≡ endpoints_of c.accounts
