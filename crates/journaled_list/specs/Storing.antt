-- What adding a record to a list says of each moment since it began, and of its end.
use Rattle.std.specs.Prelude.{◌≡◌, ◌⊎◌, ℕ, ◌+◌, ◌-◌, ◌≤◌, List, ◌++◌, length, take, Result, Ok, Err}
use Rattle.site_core.specs.Log.{sent, Left}
use Rattle.site_core.specs.Told.{Told}
use Rattle.store_forward.specs.declared.faults.ForwardFault.{ForwardFault}
use Rattle.store_forward.specs.declared.faults.ForwardFault.TheVariants.{SiteFault, LineFault, JournalFull}
use Rattle.journaled_list.specs.Rules.{Rules, Listed}
use Rattle.journaled_list.specs.Payloads.{with_group, IsGroup, Stands}
use Rattle.journaled_list.specs.Ready.{IsReady}

-- the image stands for the list as it was and nothing is sent; or, after three calls, for the list with the group, and after
-- four and n the first n frames are sent
abbrev pub IsStoringMoment : {O E : Type 0} → Rules O E → Listed O E → ℕ → List E → List (List ℕ) → Told → Told → List ℕ → List (List ℕ) → Type 0
IsStoringMoment rules list last group frames old new image found =
    (Stands rules image list last × (found ≡ sent old.log))
    ⊎ (Stands rules image (with_group list group) (length group) × (old.calls + 3 ≤ new.calls)
    × ((n : ℕ) × (n ≤ length frames) × (n ≤ new.calls - (old.calls + 4)) × (found ≡ sent old.log ++ take n frames)))

-- the group stands for good after Ok and a fault of the line, and nothing changed where the journal is full
abbrev pub ReadyAfter : {O E : Type 0} → Rules O E → Result (Unit {0}) ForwardFault → Listed O E → ℕ → List E → ℕ → Told → Type 0
ReadyAfter rules (Ok done) list last group tail new = IsReady rules (record { list = with_group list group; last = length group; tail = tail }) new
ReadyAfter rules (Err LineFault) list last group tail new = IsReady rules (record { list = with_group list group; last = length group; tail = tail }) new
ReadyAfter rules (Err (JournalFull t n)) list last group tail new = IsReady rules (record { list = list; last = last; tail = tail }) new
ReadyAfter rules (Err SiteFault) list last group tail new = Unit {0}

pub record StoresGroup {O E : Type 0} (rules : Rules O E) (result : Result (Unit {0}) ForwardFault) (list : Listed O E) (last : ℕ) (group : List E) (tail : ℕ) (frames : List (List ℕ)) (old new : Told) : Type 0 where
  pub each : (image : List ℕ) (found : List (List ℕ)) → Left (length old.log) new.log image found → IsStoringMoment rules list last group frames old new image found
  pub ready : ReadyAfter rules result list last group tail new

-- whatever list was ready, and whatever group the payload spells that may come next
abbrev pub StoresAll : {O E : Type 0} → Rules O E → Result (Unit {0}) ForwardFault → ℕ → ℕ → List ℕ → List (List ℕ) → Told → Told → Type 0
StoresAll {O = O} {E = E} rules result before after payload frames old new =
    (list : Listed O E) (last : ℕ) (group : List E) → IsReady rules (record { list = list; last = last; tail = before }) old
    → IsGroup rules list.opening list.entries group payload → StoresGroup rules result list last group after frames old new
