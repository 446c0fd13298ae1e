-- What a reader asks, and what the bytes at a gate's place say to it.
use Rattle.std.specs.Prelude.{◌≡◌, ◌≢◌, ℕ, ◌<◌, ◌≤◌, Bool, List, [], ◌∷◌, ◌++◌, length, drop, replicate, MatchBool}
use Rattle.std.specs.Int.{to_be_bytes, w32}
use Rattle.site_core.specs.Log.Act.{Asked, Synced}
use Rattle.site_core.specs.Told.{Told, Ran}
use Rattle.torn_journal.specs.declared.faults.ResumeFault.{ResumeFault}
use Rattle.torn_journal.specs.declared.faults.ResumeFault.TheVariants.{SiteFault, NoHeader, Damaged, NoMemory}
use Rattle.torn_journal.specs.declared.reading.Next.{Next}
use Rattle.torn_journal.specs.declared.reading.Next.TheVariants.{Tail, Damage, Payload}
use Rattle.torn_journal.specs.Damage.{NoRecord}
use Rattle.torn_journal.specs.Journal.{open_gate, record_of}
use Rattle.torn_journal.specs.Limits.{longest_payload}

-- at most so many questions
abbrev pub Looks : Bool → ℕ → Told → Told → Type 0
Looks whole most old new = Ran whole (λ acts. (n : ℕ) × (n ≤ most) × (acts ≡ replicate n Asked)) old new

-- a sync, and then at most so many questions
abbrev pub Seeks : Bool → ℕ → Told → Told → Type 0
Seeks whole most old new = Ran whole (λ acts. (n : ℕ) × (n ≤ most) × (acts ≡ replicate n Asked ++ Synced ∷ [])) old new

-- what the first bytes say of what follows: a gate that isn't open, no record, or an open gate and a length
abbrev pub HeadIs : List ℕ → Next → Type 0
HeadIs rest Tail = (gate : ℕ) × (more : List ℕ) × (rest ≡ gate ∷ more) × (gate ≢ open_gate)
HeadIs rest Damage = NoRecord rest
HeadIs rest (Payload n) = (more : List ℕ) × (rest ≡ open_gate ∷ (to_be_bytes w32 n ++ more))

-- the same, with the payload
abbrev pub NextIs : List ℕ → List ℕ → Next → Type 0
NextIs rest payload Tail = HeadIs rest Tail
NextIs rest payload Damage = NoRecord rest
NextIs rest payload (Payload n) = (more : List ℕ) × (rest ≡ record_of payload ++ more)

-- so many bytes stand there, and are these; or fewer do
abbrev pub Holds : Bool → ℕ → List ℕ → List ℕ → Type 0
Holds whole count bytes rest = MatchBool whole (rest ≡ bytes ++ drop count rest) (length rest < count)

-- a length that a payload may have
abbrev pub IsSized : Next → Type 0
IsSized (Payload n) = (1 ≤ n) × (n ≤ longest_payload)
IsSized other = Unit {0}

-- reading a record fails for no other reason
abbrev pub IsReadFault : ResumeFault → Type 0
IsReadFault SiteFault = Unit {0}
IsReadFault NoMemory = Unit {0}
IsReadFault NoHeader = ⊥
IsReadFault (Damaged place) = ⊥
