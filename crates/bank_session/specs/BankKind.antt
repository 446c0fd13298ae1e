-- A bank as a kind of node: what it keeps, what arrives at it, and what it does with that.
use Rattle.std.specs.Prelude.{ℕ, List, []}
use Rattle.link_frames.specs.Frames.{Content as Frame, IsFrame}
use Rattle.bank_books.specs.declared.entries.BankEntry.{BankEntry}
use Rattle.bank_books.specs.declared.entries.BankOpening.{BankOpening}
use Rattle.bank_books.specs.declared.outcomes.BankOutcome.{BankOutcome}
use Rattle.bank_turns.specs.BankSteps.{BankStep, adds_to, bank_step}
use Rattle.bank_node.specs.BankRules.{bank_rules}
use Rattle.bank_node.specs.Stepping.{step_of}
use Rattle.journaled_list.specs.Resuming.{none_again}
use Rattle.journaled_list.specs.Rules.{Listed}
use Rattle.journaled_steps.specs.Steps.{last_after}
use Rattle.line_sessions.specs.Plays.{Part}
use Rattle.node_session.specs.Kinds.{Event, Kind, part_of}

-- a bank's opening, its entries, the newest first, and how many of them its last record has
pub record Kept : Type 0 where
  pub opening : BankOpening
  pub entries : List BankEntry
  pub recent : ℕ

-- what is kept as a list
abbrev pub list_of : Kept → Listed BankOpening BankEntry
list_of kept = record { opening = kept.opening; entries = kept.entries }

-- the bank's step at a frame
abbrev pub step_at : Kept → Frame → BankStep
step_at kept f = bank_step kept.opening kept.entries f

-- what it keeps after a frame
abbrev pub kept_with : Kept → Frame → Kept
kept_with kept f = record { opening = kept.opening; entries = adds_to (step_at kept f).adds kept.entries; recent = last_after kept.recent (step_at kept f).adds }

-- a resume sends nothing; frames arrive, and no clock is read
abbrev pub bank_kind : Kind BankOpening BankEntry BankOutcome Frame Kept
bank_kind = record {
  rules = bank_rules;
  again = none_again;
  step = step_of;
  list_of = list_of;
  recent_of = λ kept. kept.recent;
  after = kept_with;
  frame_of = λ f. f;
  readings_of = λ frames. [];
  IsArrival = IsFrame;
}

abbrev pub bank_part : Part Kept (Event Frame)
bank_part = part_of bank_kind
