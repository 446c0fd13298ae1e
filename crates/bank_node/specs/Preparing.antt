-- What is prepared of a bank's step before a device is called.
use Rattle.std.specs.Prelude.{ℕ, List, map}
use Rattle.link_frames.specs.Frames.{frame_bytes}
use Rattle.bank_turns.specs.BankSteps.{BankStep}
use Rattle.bank_node.specs.declared.preparing.Prepared.{Prepared}

-- the outcome of a step, and what it adds
abbrev pub told : BankStep → Prepared
told step = record { outcome = step.outcome; entry = step.adds }

-- the frames of a step, as bytes
abbrev pub bytes_sent : BankStep → List (List ℕ)
bytes_sent step = map frame_bytes step.sends
