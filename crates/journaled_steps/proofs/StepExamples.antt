-- Steps of a list of bytes, whose journal has the opening alone: what the definitions give for them.
use Rattle.std.proofs.Common.{◌≡◌, ℕ, true, false, [], ◌∷◌, refl, Some, Ok, Err, arith}
use Rattle.journaled_list.specs.Rules.{Rules}
use Rattle.journaled_steps.specs.declared.faults.StepFault.TheVariants.{SiteFault, LineFault, JournalFull, NoMemory}
use Rattle.journaled_steps.specs.Node.{Node}
use Rattle.journaled_steps.specs.Steps.{Step, Fits, HasRoom, InOrder, NodeAfter, TellsRoom, calls_before, entries_with, goes_on, kept_of, record_for, sends_only, stores_and_sends}

-- a byte is spelled as itself
abbrev byte_rules : Rules ℕ ℕ
byte_rules = record {
  IsOpening = λ o. Unit {0};
  opening_bytes = λ o. o ∷ [];
  entry_bytes = λ x. x ∷ [];
  MayFollow = λ o older x. Unit {0};
}

-- the list of the opening 9, and that with one entry
abbrev opened : Node ℕ ℕ
opened = record { list = record { opening = 9; entries = [] }; last = 0; tail = 23; live = true }

abbrev grown : Node ℕ ℕ
grown = record { list = record { opening = 9; entries = 7 ∷ [] }; last = 1; tail = 29; live = true }

-- a step that adds 7, sends two frames and answers 5
abbrev adding : Step ℕ ℕ
adding = stores_and_sends 7 ((1 ∷ []) ∷ (2 ∷ []) ∷ []) 5

record_of_seven : record_for byte_rules 7 ≡ 0 ∷ 0 ∷ 0 ∷ 1 ∷ 7 ∷ 0 ∷ []
record_of_seven = refl

added : NodeAfter byte_rules (Ok 5) adding opened grown
added = (refl, record { list = refl; last = refl; tail = refl; live = refl })

-- after a fault of the line it is the same, and after want of memory nothing has changed
line_failed : NodeAfter byte_rules (Err LineFault) adding opened grown
line_failed = record { list = refl; last = refl; tail = refl; live = refl }

no_memory : NodeAfter byte_rules (Err NoMemory) adding opened opened
no_memory = refl

-- another outcome is told by no step
other_outcome : NodeAfter byte_rules (Ok 6) adding opened grown → ⊥
other_outcome after = omega (arith, after.0)

-- a fault of the disk comes of no step that adds nothing
nothing_stored : NodeAfter {X = ℕ} byte_rules (Err SiteFault) (sends_only [] 5) opened opened → ⊥
nothing_stored after = absurd (let wrong : false ≡ true = after.0 in cc)

-- nothing is sent while the entry isn't kept, and no more frames than there are when it is
unkept : InOrder adding false 1 → ⊥
unkept order = omega (arith, order.unkept refl refl)

all_sent : InOrder adding true 2
all_sent = record { few = omega arith; unkept = λ some unkept. absurd cc }

too_many : InOrder adding true 3 → ⊥
too_many order = omega (arith, order.few)

was_kept : entries_with (kept_of true adding.adds) (3 ∷ []) ≡ 7 ∷ 3 ∷ []
was_kept = refl

was_lost : entries_with (kept_of false adding.adds) (3 ∷ []) ≡ 3 ∷ []
was_lost = refl

-- the last place at which the record has room, and the first at which it has none
last_room : HasRoom {T = ℕ} byte_rules (Ok 5) (Some 7) 1_073_741_818
last_room = omega arith

first_full : HasRoom {T = ℕ} byte_rules (Err (JournalFull 1_073_741_819 6)) (Some 7) 1_073_741_819
first_full = (refl, refl, omega arith)

never_beyond : Fits byte_rules (Some 7) 1_073_741_819 → ⊥
never_beyond room = omega (arith, room)

told_full : TellsRoom (Err (JournalFull 1_073_741_819 6)) 1_073_741_819 6
told_full = (refl, refl, omega arith)

four_calls : calls_before adding.adds ≡ 4
four_calls = refl

disk_ends : goes_on SiteFault ≡ false
disk_ends = refl

line_goes_on : goes_on LineFault ≡ true
line_goes_on = refl
