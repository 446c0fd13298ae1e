-- What reading a journal finds, and what its answers say of the image.
use Rattle.std.specs.Prelude.{◌≡◌, ℕ, ◌≤◌, Bool, true, false, List, Option, IfSome, Result, Ok, Err}
use Rattle.site_core.specs.Log.{reads}
use Rattle.site_core.specs.Told.{Told}
use Rattle.torn_journal.specs.Journal.{tail_of, HasHeader, IsJournal}
use Rattle.torn_journal.specs.Limits.{greatest_tail}
use Rattle.journaled_list.specs.declared.faults.OpenFault.{OpenFault}
use Rattle.journaled_list.specs.declared.faults.OpenFault.TheVariants.{SiteFault, LineFault, NoHeader, Damaged, NoMemory}
use Rattle.journaled_list.specs.declared.kept.Kept.{Kept}
use Rattle.journaled_list.specs.Rules.{Rules, Listed}
use Rattle.journaled_list.specs.Payloads.{StandFor, Stands, IsListDamage}

-- a list, how many of its entries the last record has, and the place after the tail gate
pub record Found (O E : Type 0) : Type 0 where
  pub list : Listed O E
  pub last : ℕ
  pub tail : ℕ

abbrev pub found_in : {L O E : Type 0} → (L → Listed O E) → Kept L → Found O E
found_in list_of kept = record { list = list_of kept.list; last = kept.last; tail = kept.journal }

-- payloads that stand for what was found, all that the image has where the site tells
pub record Finds {O E : Type 0} (rules : Rules O E) (told : Option Told) (found : Found O E) : Type 0 where
  pub payloads : List (List ℕ)
  pub stand : StandFor rules payloads found.list found.last
  pub place : found.tail ≡ tail_of payloads
  pub small : found.tail ≤ greatest_tail
  pub image : IfSome told (λ site. IsJournal (reads site.log) payloads)

-- what each answer says of the image
abbrev pub SaysOfImage : {T O E : Type 0} → Rules O E → (T → Found O E) → Option Told → Result T OpenFault → Type 0
SaysOfImage rules view told (Ok kept) = Finds rules told (view kept)
SaysOfImage rules view told (Err NoHeader) = IfSome told (λ site. ¬ HasHeader (reads site.log))
SaysOfImage rules view told (Err (Damaged place)) = IfSome told (λ site. IsListDamage rules (reads site.log) place)
SaysOfImage rules view told (Err SiteFault) = Unit {0}
SaysOfImage rules view told (Err LineFault) = Unit {0}
SaysOfImage rules view told (Err NoMemory) = Unit {0}

-- this list is found, or a call or memory failed
abbrev pub GivesList : {T O E : Type 0} → (T → Found O E) → Listed O E → ℕ → Result T OpenFault → Type 0
GivesList view list last (Ok kept) = ((view kept).list ≡ list) × ((view kept).last ≡ last)
GivesList view list last (Err NoHeader) = ⊥
GivesList view list last (Err (Damaged place)) = ⊥
GivesList view list last (Err SiteFault) = Unit {0}
GivesList view list last (Err LineFault) = Unit {0}
GivesList view list last (Err NoMemory) = Unit {0}

-- this is answered, or a call of the disk or memory failed
abbrev pub Refuses : {T : Type 0} → OpenFault → Result T OpenFault → Type 0
Refuses fault (Ok kept) = ⊥
Refuses fault (Err NoHeader) = NoHeader ≡ fault
Refuses fault (Err (Damaged place)) = Damaged place ≡ fault
Refuses fault (Err LineFault) = ⊥
Refuses fault (Err SiteFault) = Unit {0}
Refuses fault (Err NoMemory) = Unit {0}

-- what is answered to an image that stands for a list, to a damaged one, and to one without the header
pub record AnswersImage {T O E : Type 0} (rules : Rules O E) (view : T → Found O E) (image : List ℕ) (result : Result T OpenFault) : Type 0 where
  pub sound : (list : Listed O E) (last : ℕ) → Stands rules image list last → GivesList view list last result
  pub damaged : (place : ℕ) → IsListDamage rules image place → Refuses (Damaged place) result
  pub headless : ¬ HasHeader image → Refuses NoHeader result

-- no call of the disk failed
abbrev pub no_disk_fault : {T : Type 0} → Result T OpenFault → Bool
no_disk_fault (Err SiteFault) = false
no_disk_fault rest = true
