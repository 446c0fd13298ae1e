-- A session of a bank in the words of its steps: what comes from its line between a restart and the next one.
use Rattle.std.specs.Prelude.{ℕ, List, [], ◌∷◌, ◌++◌}
use Rattle.link_frames.specs.Frames.{Content as Frame}
use Rattle.bank_books.specs.declared.entries.BankEntry.{BankEntry}
use Rattle.bank_books.specs.declared.entries.BankOpening.{BankOpening}
use Rattle.bank_turns.specs.BankSteps.{adds_to, bank_step}

-- the entries after one frame, and after several in their order
abbrev pub entries_with : BankOpening → List BankEntry → Frame → List BankEntry
entries_with o es f = adds_to (bank_step o es f).adds es

abbrev pub entries_after : BankOpening → List BankEntry → List Frame → List BankEntry
entries_after o es [] = es
entries_after o es (f ∷ later) = entries_after o (entries_with o es f) later

-- all frames that the bank sends at these
abbrev pub frames_at : BankOpening → List BankEntry → List Frame → List Frame
frames_at o es [] = []
frames_at o es (f ∷ later) = (bank_step o es f).sends ++ frames_at o (entries_with o es f) later
