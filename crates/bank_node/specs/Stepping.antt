-- A bank's step, as a node takes it.
use Rattle.std.specs.Prelude.{List, map}
use Rattle.link_frames.specs.Frames.{Content as Frame, frame_bytes}
use Rattle.bank_books.specs.declared.entries.BankEntry.{BankEntry}
use Rattle.bank_books.specs.declared.entries.BankOpening.{BankOpening}
use Rattle.bank_books.specs.declared.outcomes.BankOutcome.{BankOutcome}
use Rattle.bank_turns.specs.BankSteps.{BankStep, bank_step}
use Rattle.journaled_list.specs.Rules.{Listed}
use Rattle.journaled_steps.specs.Node.{Node}
use Rattle.journaled_steps.specs.Steps.{Step}

-- the step, with its frames as bytes
abbrev pub as_step : BankStep → Step BankEntry BankOutcome
as_step s = record { adds = s.adds; sends = map frame_bytes s.sends; outcome = s.outcome }

-- the step of a bank with a list over a frame
abbrev pub step_of : Listed BankOpening BankEntry → Frame → Step BankEntry BankOutcome
step_of list f = as_step (bank_step list.opening list.entries f)
