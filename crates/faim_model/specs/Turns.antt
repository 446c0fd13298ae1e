-- What a host does with what comes from a line.
use Rattle.std.specs.Prelude.{ℕ, ◌==◌, max, List, [], ◌∷◌, length, if◌then◌else◌, Option, Some, None}
use Rattle.faim_base.specs.declared.ids.OutPos.{OutPos}
use Rattle.faim_base.specs.declared.judgement.Head.{Head}
use Rattle.faim_base.specs.Refusals.{e001, e002}
use Rattle.host_ledger.specs.declared.config.Config.{Config}
use Rattle.host_ledger.specs.declared.entries.Entry.{Entry}
use Rattle.host_ledger.specs.declared.entries.Entry.TheVariants.{Posted, Roll}
use Rattle.faim_model.specs.declared.decisions.HostOutcome.{HostOutcome}
use Rattle.faim_model.specs.declared.decisions.HostOutcome.TheVariants.{Recorded, Known, TurnedAway, Retrieved}
use Rattle.faim_model.specs.Outputs.{retrieved}
use Rattle.faim_model.specs.Submissions.{Submission, Strange, Unnumbered, Numbered, submission}
use Rattle.faim_model.specs.Verdicts.{Answer, Now, Before, Turned, verdict_on}
use Rattle.faim_model.specs.Lawful.{last_moment}

-- an entry or none, and the outcome
pub record HostTurn : Type 0 where
  pub adds : Option Entry
  pub outcome : HostOutcome

-- the entries after a turn
abbrev pub adds_to : Option Entry → List Entry → List Entry
adds_to None es = es
adds_to (Some x) es = x ∷ es

-- the turn adds nothing
abbrev pub stays : HostOutcome → HostTurn
stays outcome = record { adds = None; outcome = outcome }

-- the entry at a place, the oldest being at 0
abbrev pub entry_at : List Entry → ℕ → Option Entry
entry_at [] place = None
entry_at (x ∷ older) place = if length older == place then Some x else entry_at older place

-- the verdict that an entry keeps, told again
abbrev pub told_again : Option Entry → HostOutcome
told_again (Some (Posted h body resent moment v)) = Known h.imad v
told_again (Some (Roll moment date)) = TurnedAway e001
told_again None = TurnedAway e001

-- a new verdict is recorded with its message, P told; one that stands is told again; any other refusal changes nothing
abbrev pub answered : List Entry → ℕ → Head → List ℕ → ℕ → Answer → HostTurn
answered es t h body mark (Now v) = record { adds = Some (Posted h body (mark == 80) t v); outcome = Recorded h.imad v }
answered es t h body mark (Before place) = stays (told_again (entry_at es place))
answered es t h body mark (Turned why) = stays (TurnedAway why)

-- the turn at a submission from a line at an effective moment
abbrev pub turn_at : Config → List Entry → List ℕ → ℕ → Submission → HostTurn
turn_at c es line t Strange = stays (TurnedAway e001)
turn_at c es line t Unnumbered = stays (TurnedAway e002)
turn_at c es line t (Numbered h body mark failed) = answered es t h body mark (verdict_on c es line t (Numbered h body mark failed))

-- the effective moment: the clock's, but never before the newest entry's
abbrev pub effective : List Entry → ℕ → ℕ
effective es reading = max reading (last_moment es)

-- a text is submitted on a line
abbrev pub submitted : Config → List Entry → List ℕ → ℕ → List ℕ → HostTurn
submitted c es line reading text = turn_at c es line (effective es reading) (submission c.env text)

-- a line asks for its outputs from a position on
abbrev pub retrieved_turn : Config → List Entry → List ℕ → OutPos → HostTurn
retrieved_turn c es line p = stays (Retrieved (length (retrieved c es line p)))
