-- What the answers of a resume say, and what reading a journal leaves.
use Rattle.std.specs.Prelude.{◌≡◌, ◌⊎◌, ◌↔◌, ℕ, ◌+◌, ◌*◌, ◌≤◌, Bool, true, false, List, [], ◌∷◌, ◌++◌, length, replicate, IsTrue, MatchBool, Option, IfSome, Result, Ok, Err}
use Rattle.std.specs.List.{All}
use Rattle.site_core.specs.Counts.{Rose}
use Rattle.site_core.specs.Log.{Act, reads, sent, Left, NothingPending}
use Rattle.site_core.specs.Log.Act.{Asked, Synced, SyncFailed}
use Rattle.site_core.specs.Told.{Told, Ran}
use Rattle.torn_journal.specs.declared.faults.ResumeFault.{ResumeFault}
use Rattle.torn_journal.specs.declared.faults.ResumeFault.TheVariants.{SiteFault, NoHeader, Damaged, NoMemory}
use Rattle.torn_journal.specs.Damage.{IsDamaged}
use Rattle.torn_journal.specs.Journal.{tail_of, HasHeader, IsPayload, IsJournal}
use Rattle.torn_journal.specs.Limits.{greatest_tail}
use Rattle.torn_journal.specs.Reading.{Seeks}
use Rattle.torn_journal.specs.Visits.{AllFollow}

-- the payloads that a visitor was handed, all that the image has where the site tells
pub record Finds (follows : List (List ℕ) → List ℕ → Type 0) (stands : List (List ℕ) → Type 0) (told : Option Told) (tail : ℕ) : Type 0 where
  pub payloads : List (List ℕ)
  pub stood : stands payloads
  pub each : All IsPayload payloads
  pub followed : AllFollow follows payloads
  pub place : tail ≡ tail_of payloads
  pub small : tail ≤ greatest_tail
  pub image : IfSome told (λ site. IsJournal (reads site.log) payloads)

-- what each answer says of the visitor, and of the image where the site tells
abbrev pub Says : (List (List ℕ) → List ℕ → Type 0) → (List (List ℕ) → Type 0) → Option Told → Result ℕ ResumeFault → Type 0
Says follows stands told (Ok tail) = Finds follows stands told tail
Says follows stands told (Err NoHeader) = IfSome told (λ site. ¬ HasHeader (reads site.log))
Says follows stands told (Err (Damaged place)) = IfSome told (λ site. IsDamaged follows (reads site.log) place)
Says follows stands told (Err SiteFault) = Unit {0}
Says follows stands told (Err NoMemory) = Unit {0}

-- these payloads are handed over, or a call or memory failed
abbrev pub GivesBack : (List (List ℕ) → Type 0) → List (List ℕ) → Result ℕ ResumeFault → Type 0
GivesBack stands payloads (Ok tail) = stands payloads × (tail ≡ tail_of payloads)
GivesBack stands payloads (Err NoHeader) = ⊥
GivesBack stands payloads (Err (Damaged place)) = ⊥
GivesBack stands payloads (Err SiteFault) = Unit {0}
GivesBack stands payloads (Err NoMemory) = Unit {0}

-- this is answered, or a call or memory failed
abbrev pub Refuses : ResumeFault → Result ℕ ResumeFault → Type 0
Refuses fault (Ok tail) = ⊥
Refuses fault (Err NoHeader) = NoHeader ≡ fault
Refuses fault (Err (Damaged place)) = Damaged place ≡ fault
Refuses fault (Err SiteFault) = Unit {0}
Refuses fault (Err NoMemory) = Unit {0}

-- what is answered to a journal of payloads that follow one another, to a damaged image, and to one without the header
pub record AnswersImage (follows : List (List ℕ) → List ℕ → Type 0) (stands : List (List ℕ) → Type 0) (image : List ℕ) (result : Result ℕ ResumeFault) : Type 0 where
  pub sound : (payloads : List (List ℕ)) → IsJournal image payloads → AllFollow follows payloads → GivesBack stands payloads result
  pub damaged : (place : ℕ) → IsDamaged follows image place → Refuses (Damaged place) result
  pub headless : ¬ HasHeader image → Refuses NoHeader result

-- no call of the site failed
abbrev pub no_fault : {T : Type 0} → Result T ResumeFault → Bool
no_fault (Err SiteFault) = false
no_fault rest = true

-- the count of faults of the disk rises where a call of the site failed, and stays where none did
abbrev pub IsFaulty : {T : Type 0} → Result T ResumeFault → ℕ → ℕ → Type 0
IsFaulty result before now = MatchBool (no_fault result) (now ≡ before) (Rose before now × (before ≤ now))

-- a sync and questions, or a sync that failed
abbrev pub IsLooking : Bool → List Act → Type 0
IsLooking true acts = (n : ℕ) × (acts ≡ replicate n Asked ++ Synced ∷ [])
IsLooking false acts = ((n : ℕ) × (acts ≡ replicate n Asked ++ Synced ∷ [])) ⊎ ((acts ≡ []) ⊎ (acts ≡ SyncFailed ∷ []))

-- what a resume leaves as it was, at its end and at each moment
pub record HasLooked (whole : Bool) (old new : Told) : Type 0 where
  pub ran : Ran whole (IsLooking whole) old new
  -- at most twice as many calls as there are records, and five
  pub few : (payloads : List (List ℕ)) → IsJournal (reads old.log) payloads → new.calls ≤ old.calls + 2 * length payloads + 5
  pub image : reads new.log ≡ reads old.log
  pub frames : sent new.log ≡ sent old.log
  pub pending : MatchBool whole (NothingPending new.log) (NothingPending old.log → NothingPending new.log)
  -- where nothing was pending each moment leaves what reads, and else each moment after the sync
  pub quiet : NothingPending old.log → (image : List ℕ) (found : List (List ℕ)) → Left (length old.log) new.log image found → (image ≡ reads old.log) × (found ≡ sent old.log)
  pub after : MatchBool whole (Unit {0}) ((n : ℕ) × (new.log ≡ replicate n Asked ++ Synced ∷ [] ++ old.log)) → (image : List ℕ) (found : List (List ℕ)) → Left (length old.log + 1) new.log image found → (image ≡ reads old.log) × (found ≡ sent old.log)

-- whether the image begins with the header, asked after a sync
abbrev pub Opens : {E : Type 0} → Result Bool E → Told → Told → Type 0
Opens (Ok there) old new = Seeks true 1 old new × (IsTrue there ↔ HasHeader (reads old.log))
Opens (Err fault) old new = HasLooked false old new
