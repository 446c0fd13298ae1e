-- What a reader of payloads knows, and what it answers.
use Rattle.std.specs.Prelude.{◌≡◌, ℕ, ◌+◌, ◌≤◌, List, [], ◌∷◌, ◌++◌, length, drop, Option, Some, None, Result, Ok, Err}
use Rattle.torn_journal.specs.declared.visit.VisitFault.{VisitFault}
use Rattle.torn_journal.specs.declared.visit.VisitFault.TheVariants.{Bad, NoMemory}
use Rattle.journaled_list.specs.Rules.{Rules, Listed}
use Rattle.journaled_list.specs.Payloads.{joined, with_group, Continues, IsGroup, StandFor}

-- nothing was read before the first payload
abbrev pub IsLoaded : {L O E : Type 0} → Rules O E → (L → Listed O E) → Option L → ℕ → List (List ℕ) → Type 0
IsLoaded rules list_of None last payloads = payloads ≡ []
IsLoaded rules list_of (Some read) last payloads = StandFor rules payloads (list_of read) last

abbrev pub with_entry : {O E : Type 0} → Listed O E → E → Listed O E
with_entry list x = record { opening = list.opening; entries = x ∷ list.entries }

-- a list without entries, whose opening the bytes spell; or they spell none
abbrev pub OpensWith : {L O E : Type 0} → Rules O E → (L → Listed O E) → Result L VisitFault → List ℕ → Type 0
OpensWith rules list_of (Ok read) bytes = rules.IsOpening (list_of read).opening × (bytes ≡ rules.opening_bytes (list_of read).opening) × ((list_of read).entries ≡ [])
OpensWith {O = O} rules list_of (Err Bad) bytes = (o : O) → rules.IsOpening o → bytes ≡ rules.opening_bytes o → ⊥
OpensWith rules list_of (Err NoMemory) bytes = Unit {0}

-- an entry that may come next stands at the front of the bytes
pub record StartsWith {O E : Type 0} (rules : Rules O E) (list : Listed O E) (bytes : List ℕ) (x : E) (rest : List ℕ) : Type 0 where
  pub follows : rules.MayFollow list.opening list.entries x
  pub is : bytes ≡ rules.entry_bytes x ++ rest

-- the entry at the front was added, which has so many bytes; or none stands there that may come next
abbrev pub AddsOne : {O E : Type 0} → Rules O E → Result ℕ VisitFault → Listed O E → Listed O E → List ℕ → Type 0
AddsOne {E = E} rules (Ok size) old new bytes = (x : E) × StartsWith rules old bytes x (drop size bytes) × (size ≤ length bytes) × (new ≡ with_entry old x)
AddsOne {E = E} rules (Err Bad) old new bytes = (x : E) (rest : List ℕ) → StartsWith rules old bytes x rest → ⊥
AddsOne rules (Err NoMemory) old new bytes = Unit {0}

-- a group was added; or the payload spells none that may come next
abbrev pub AddsGroup : {O E : Type 0} → Rules O E → Result ℕ VisitFault → Listed O E → Listed O E → List ℕ → Type 0
AddsGroup {E = E} rules (Ok count) old new payload = (group : List E) × IsGroup rules old.opening old.entries group payload × (count ≡ length group) × (new ≡ with_group old group)
AddsGroup {E = E} rules (Err Bad) old new payload = (group : List E) → IsGroup rules old.opening old.entries group payload → ⊥
AddsGroup rules (Err NoMemory) old new payload = Unit {0}

-- some entries of the payload were added, and these bytes are left
pub record IsWithin {O E : Type 0} (rules : Rules O E) (old now : Listed O E) (payload rest : List ℕ) (count : ℕ) : Type 0 where
  pub done : List E
  pub is : payload ≡ joined rules done ++ rest
  pub lawful : Continues rules old.opening old.entries done
  pub now_is : now ≡ with_group old done
  pub many : count ≡ length done
  pub few : count + length rest ≤ length payload
