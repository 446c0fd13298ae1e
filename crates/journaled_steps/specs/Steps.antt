-- A step of a node, and what it says of the node, of its device calls, and of each moment since it began.
use Rattle.std.specs.Prelude.{◌≡◌, ◌⊎◌, ℕ, ◌+◌, ◌-◌, ◌<◌, ◌≤◌, Bool, true, false, List, ◌∷◌, ◌++◌, length, take, Option, Some, None, IsSome, Result, Ok, Err}
use Rattle.site_core.specs.Log.{sent, Left}
use Rattle.site_core.specs.Told.{Told}
use Rattle.torn_journal.specs.Journal.{framed_of}
use Rattle.torn_journal.specs.Limits.{greatest_tail}
use Rattle.store_forward.specs.declared.faults.ForwardFault.{ForwardFault}
use Rattle.store_forward.specs.declared.faults.ForwardFault.TheVariants as forwards
use Rattle.store_forward.specs.Sending.{SendCalls}
use Rattle.store_forward.specs.Storing.{StoreCalls}
use Rattle.journaled_list.specs.Rules.{Rules, Listed}
use Rattle.journaled_list.specs.Payloads.{Stands}
use Rattle.journaled_steps.specs.declared.faults.StepFault.{StepFault}
use Rattle.journaled_steps.specs.declared.faults.StepFault.TheVariants.{SiteFault, LineFault, JournalFull, NoMemory}
use Rattle.journaled_steps.specs.Node.{Node, IsLive}

-- the entry that a step adds to the list, the bytes of the frames that it sends, the first first, and what it answers
pub record Step (E X : Type 0) : Type 0 where
  pub adds : Option E
  pub sends : List (List ℕ)
  pub outcome : X

-- a step that adds nothing
abbrev pub sends_only : {E X : Type 0} → List (List ℕ) → X → Step E X
sends_only sends outcome = record { adds = None; sends = sends; outcome = outcome }

-- a step that adds this entry
abbrev pub stores_and_sends : {E X : Type 0} → E → List (List ℕ) → X → Step E X
stores_and_sends x sends outcome = record { adds = Some x; sends = sends; outcome = outcome }

-- what a step adds, where it was kept
abbrev pub kept_of : {E : Type 0} → Bool → Option E → Option E
kept_of true adds = adds
kept_of false adds = None

-- the entries with what is added, the newest first
abbrev pub entries_with : {E : Type 0} → Option E → List E → List E
entries_with None entries = entries
entries_with (Some x) entries = x ∷ entries

-- the list with what is added
abbrev pub list_with : {O E : Type 0} → Option E → Listed O E → Listed O E
list_with adds list = record { opening = list.opening; entries = entries_with adds list.entries }

-- how many entries the last record has then: the one that was added, or as many as before
abbrev pub last_after : {E : Type 0} → ℕ → Option E → ℕ
last_after last None = last
last_after last (Some x) = 1

-- which ways of landing there are: the step has as many frames, and none was sent while its entry isn't kept
pub record InOrder {E X : Type 0} (step : Step E X) (kept : Bool) (n : ℕ) : Type 0 where
  pub few : n ≤ length step.sends
  pub unkept : IsSome step.adds → kept ≡ false → n ≡ 0

-- what is written after the tail gate for an entry
abbrev pub record_for : {O E : Type 0} → Rules O E → E → List ℕ
record_for rules x = framed_of (rules.entry_bytes x)

-- the place after the tail gate, behind the record of what is added
abbrev pub tail_with : {O E : Type 0} → Rules O E → ℕ → Option E → ℕ
tail_with rules tail None = tail
tail_with rules tail (Some x) = tail + length (record_for rules x)

-- the node has the list, the last record and the tail that the step gives it, and goes on
pub record HasStepped {O E X : Type 0} (rules : Rules O E) (step : Step E X) (old new : Node O E) : Type 0 where
  pub list : new.list ≡ list_with step.adds old.list
  pub last : new.last ≡ last_after old.last step.adds
  pub tail : new.tail ≡ tail_with rules old.tail step.adds
  pub live : new.live ≡ true

-- the step is done after Ok, with its own outcome, and after a fault of the line; nothing changed where the journal is full
-- or memory ran out; a fault of the disk comes from an entry that is added, and the node is out of use then
abbrev pub NodeAfter : {O E X : Type 0} → Rules O E → Result X StepFault → Step E X → Node O E → Node O E → Type 0
NodeAfter rules (Ok outcome) step old new = (outcome ≡ step.outcome) × HasStepped rules step old new
NodeAfter rules (Err LineFault) step old new = HasStepped rules step old new
NodeAfter rules (Err (JournalFull tail need)) step old new = new ≡ old
NodeAfter rules (Err NoMemory) step old new = new ≡ old
NodeAfter rules (Err SiteFault) step old new = IsSome step.adds × (new.live ≡ false)

-- the record of what is added ends within the greatest tail
abbrev pub Fits : {O E : Type 0} → Rules O E → Option E → ℕ → Type 0
Fits rules None tail = Unit {0}
Fits rules (Some x) tail = tail + length (record_for rules x) ≤ greatest_tail

-- it would end beyond, and the tail and its length are told
abbrev pub IsBeyond : {O E : Type 0} → Rules O E → Option E → ℕ → ℕ → ℕ → Type 0
IsBeyond rules None tail told need = ⊥
IsBeyond rules (Some x) tail told need = (told ≡ tail) × (need ≡ length (record_for rules x)) × (greatest_tail < tail + need)

-- the journal is full exactly where the record doesn't fit; memory may run out before that is known
abbrev pub HasRoom : {O E T : Type 0} → Rules O E → Result T StepFault → Option E → ℕ → Type 0
HasRoom rules (Err (JournalFull told need)) adds tail = IsBeyond rules adds tail told need
HasRoom rules (Err NoMemory) adds tail = Unit {0}
HasRoom rules other adds tail = Fits rules adds tail

-- the calls are the four of an append, where an entry is added, and then one for each frame; none comes after one that
-- failed, and none at all where memory ran out or the journal is full
abbrev pub StepCalls : {O E T : Type 0} → Rules O E → Option E → List (List ℕ) → ℕ → Result T StepFault → Told → Told → Type 0
StepCalls rules None frames tail (Ok done) old new = SendCalls {E = StepFault} frames (Ok done) old new
StepCalls {T = T} rules None frames tail (Err LineFault) old new = SendCalls {T = T} {E = StepFault} frames (Err LineFault) old new
StepCalls rules None frames tail (Err SiteFault) old new = ⊥
StepCalls rules (Some x) frames tail (Ok done) old new = StoreCalls tail (record_for rules x) frames (Ok tt) old new
StepCalls rules (Some x) frames tail (Err SiteFault) old new = StoreCalls tail (record_for rules x) frames (Err forwards.SiteFault) old new
StepCalls rules (Some x) frames tail (Err LineFault) old new = StoreCalls tail (record_for rules x) frames (Err forwards.LineFault) old new
StepCalls rules adds frames tail (Err (JournalFull told need)) old new = new ≡ old
StepCalls rules adds frames tail (Err NoMemory) old new = new ≡ old

-- all frames are sent at Ok; at a fault of the line those before the one that failed, and that one or not; else none
abbrev pub StepSends : {T : Type 0} → List (List ℕ) → Result T StepFault → Told → Told → Type 0
StepSends frames (Ok done) old new = sent new.log ≡ sent old.log ++ frames
StepSends frames (Err LineFault) old new =
    (n : ℕ) × (n < length frames) × ((sent new.log ≡ sent old.log ++ take n frames) ⊎ (sent new.log ≡ sent old.log ++ take (n + 1) frames))
StepSends frames other old new = sent new.log ≡ sent old.log

-- how many device calls come before the first send
abbrev pub calls_before : {E : Type 0} → Option E → ℕ
calls_before None = 0
calls_before (Some x) = 4

-- a stop at a moment of the step leaves it landed in one of the ways there are: its entry is kept only after three calls, and
-- n frames are sent only after n calls more than come before the first send
pub record IsStepMoment {O E X : Type 0} (rules : Rules O E) (list : Listed O E) (last : ℕ) (step : Step E X) (old new : Told) (image : List ℕ) (found : List (List ℕ)) : Type 0 where
  pub kept : Bool
  pub count : ℕ
  pub in_order : InOrder step kept count
  pub stands : Stands rules image (list_with (kept_of kept step.adds) list) (last_after last (kept_of kept step.adds))
  pub found_are : found ≡ sent old.log ++ take count step.sends
  pub secured : IsSome step.adds → kept ≡ true → old.calls + 3 ≤ new.calls
  pub made : count ≤ new.calls - (old.calls + calls_before step.adds)

-- a node goes on after each fault but one of the disk
abbrev pub goes_on : StepFault → Bool
goes_on SiteFault = false
goes_on other = true

-- whether it goes on after an answer
abbrev pub live_after : {T : Type 0} → Result T StepFault → Bool
live_after (Ok done) = true
live_after (Err fault) = goes_on fault

-- the condition of the next step holds again after each answer but a fault of the disk
abbrev pub LiveAfter : {O E T : Type 0} → Rules O E → Result T StepFault → Node O E → Told → Type 0
LiveAfter rules (Err SiteFault) node told = Unit {0}
LiveAfter rules other node told = IsLive rules node told

-- what is said of each moment since the step began, and of its end
pub record Handles {O E X : Type 0} (rules : Rules O E) (result : Result X StepFault) (step : Step E X) (before after : Node O E) (old new : Told) : Type 0 where
  pub each : (image : List ℕ) (found : List (List ℕ)) → Left (length old.log) new.log image found → IsStepMoment rules before.list before.last step old new image found
  pub live : LiveAfter rules result after new

-- where the node was live
abbrev pub HandlesAll : {O E X : Type 0} → Rules O E → Result X StepFault → Step E X → Node O E → Node O E → Told → Told → Type 0
HandlesAll rules result step before after old new = IsLive rules before old → Handles rules result step before after old new

-- a record of this length ends within the greatest tail; or it would end beyond, and the tail and the length are told
abbrev pub TellsRoom : Result (Unit {0}) StepFault → ℕ → ℕ → Type 0
TellsRoom (Ok done) tail long = tail + long ≤ greatest_tail
TellsRoom (Err (JournalFull told need)) tail long = (told ≡ tail) × (need ≡ long) × (greatest_tail < tail + need)
TellsRoom (Err SiteFault) tail long = ⊥
TellsRoom (Err LineFault) tail long = ⊥
TellsRoom (Err NoMemory) tail long = ⊥

-- the answer of a step that adds an entry, by that of storing its record and sending its frames
abbrev pub answered : {X : Type 0} → X → Result (Unit {0}) ForwardFault → Result X StepFault
answered outcome (Ok done) = Ok outcome
answered outcome (Err forwards.SiteFault) = Err SiteFault
answered outcome (Err forwards.LineFault) = Err LineFault
answered outcome (Err (forwards.JournalFull tail need)) = Err (JournalFull tail need)
