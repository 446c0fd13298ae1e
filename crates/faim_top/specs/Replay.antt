-- What a script brings about.
use Rattle.std.specs.Prelude.{ℕ, ◌+◌, ◌*◌, List, [], ◌∷◌, ◌++◌, length, map, Option, Some, None, option_map, ℤ}
use Rattle.host_ledger.specs.declared.config.Account.{Account}
use Rattle.host_ledger.specs.declared.config.Config.{Config}
use Rattle.host_ledger.specs.declared.entries.Entry.{Entry}
use Rattle.host_ledger.specs.Accounts.{endpoints_of}
use Rattle.faim_model.specs.declared.decisions.HostOutcome.{HostOutcome}
use Rattle.host_ledger.specs.Sums.{balance, cycle}
use Rattle.faim_model.specs.Outputs.{outputs}
use Rattle.faim_model.specs.Turns.{HostTurn, adds_to, submitted, retrieved_turn}
use Rattle.world_text.specs.declared.script.Script.{Script}
use Rattle.world_text.specs.declared.script.Event.{Event}
use Rattle.world_text.specs.declared.script.Act.{Act}
use Rattle.world_text.specs.declared.script.Act.TheVariants.{Clock, Submit, Retrieve}
use Rattle.world_text.specs.declared.outcome.Outcome.{Outcome}
use Rattle.world_text.specs.declared.outcome.Outcome.TheVariants.{Host}
use Rattle.world_text.specs.declared.outcome.Closing.{Closing}
use Rattle.world_text.specs.Report.{outcome_line, closing_text}

-- the clock's reading at first: the first minute of the opening date
abbrev pub opening_moment : Config → ℕ
opening_moment c = 1440 * c.date

-- the clock's reading after an event
abbrev pub next_reading : ℕ → Act → ℕ
next_reading reading (Clock moment) = moment
next_reading reading (Submit endpoint text) = reading
next_reading reading (Retrieve endpoint at) = reading

-- the host's turn at what comes from an endpoint at the clock's reading; a clock brings it none
abbrev pub act_turn : Config → List Entry → ℕ → Act → Option HostTurn
act_turn c es reading (Clock moment) = None
act_turn c es reading (Submit endpoint text) = Some (submitted c es endpoint reading text)
act_turn c es reading (Retrieve endpoint at) = Some (retrieved_turn c es endpoint at)

-- the entries, the newest first, after a turn or none
abbrev pub after_turn : Option HostTurn → List Entry → List Entry
after_turn None es = es
after_turn (Some turn) es = adds_to turn.adds es

-- the entries after one event more
abbrev pub next_entries : Config → List Entry → ℕ → Event → List Entry
next_entries c es reading ev = after_turn (act_turn c es reading ev.act) es

-- the entries after all of some events
abbrev pub entries_after : Config → List Entry → ℕ → List Event → List Entry
entries_after c es reading [] = es
entries_after c es reading (ev ∷ events) = entries_after c (next_entries c es reading ev) (next_reading reading ev.act) events

-- how a turn ended
abbrev pub outcome_of : Option HostTurn → Option HostOutcome
outcome_of turn = option_map (λ t. t.outcome) turn

-- an outcome before others, where there is one
abbrev pub before_others : Option HostOutcome → List Outcome → List Outcome
before_others None others = others
before_others (Some x) others = Host x ∷ others

-- the outcomes of events, in order; a clock has none
abbrev pub outcomes_of : Config → List Entry → ℕ → List Event → List Outcome
outcomes_of c es reading [] = []
outcomes_of c es reading (ev ∷ events) =
    before_others (outcome_of (act_turn c es reading ev.act)) (outcomes_of c (next_entries c es reading ev) (next_reading reading ev.act) events)

-- a line for each outcome, numbered from n on
abbrev pub outcome_lines : ℕ → List Outcome → List ℕ
outcome_lines n [] = []
outcome_lines n (x ∷ xs) = outcome_line n x ++ outcome_lines (n + 1) xs

abbrev pub balance_of : Config → List Entry → Account → List ℕ × ℤ
balance_of c es a = (a.aba, balance c es a.aba)

abbrev pub output_count : Config → List Entry → List ℕ → List ℕ × ℕ
output_count c es e = (e, length (outputs c es e))

abbrev pub balances_of : Config → List Entry → List Account → List (List ℕ × ℤ)
balances_of c es accounts = map (balance_of c es) accounts

abbrev pub output_counts : Config → List Entry → List (List ℕ) → List (List ℕ × ℕ)
output_counts c es endpoints = map (output_count c es) endpoints

-- the cycle date, the balance of each account and the count of each endpoint's outputs
abbrev pub closing_of : Config → List Entry → Closing
closing_of c es = record {
  cycle = cycle c es;
  balances = balances_of c es c.accounts;
  outputs = output_counts c es (endpoints_of c.accounts);
}

-- the entries that a whole script makes
abbrev pub entries_of : Script → List Entry
entries_of s = entries_after s.config [] (opening_moment s.config) s.events

-- the report of a script: a line for each outcome, and the closing
abbrev pub report_of : Script → List ℕ
report_of s = outcome_lines 1 (outcomes_of s.config [] (opening_moment s.config) s.events) ++ closing_text (closing_of s.config (entries_of s))
