-- The device calls that make a journal, and what they leave.
use Rattle.std.specs.Prelude.{◌≡◌, ◌≢◌, ◌⊎◌, ℕ, List, [], ◌∷◌, ◌++◌, length, true, false, Result, Ok, Err}
use Rattle.site_core.specs.Log.{Act, reads, sent, NothingPending}
use Rattle.site_core.specs.Log.Act.{Asked}
use Rattle.site_core.specs.Told.{Told, Ran}
use Rattle.torn_journal.specs.declared.faults.CreateFault.{CreateFault}
use Rattle.torn_journal.specs.declared.faults.CreateFault.TheVariants.{SiteFault, NotEmpty, NoMemory}
use Rattle.torn_journal.specs.Append.{secured, IsBrokenOff}
use Rattle.torn_journal.specs.Journal.{closed_gate, front_of, tail_of, IsJournal}

-- the header, the one record, and a closed gate
abbrev pub first_image : List ℕ → List ℕ
first_image opening = front_of (opening ∷ []) ++ closed_gate ∷ []

-- the size was asked for, and where it was 0 a write or a sync failed
abbrev pub IsCreateBrokenOff : List ℕ → ℕ → List Act → Type 0
IsCreateBrokenOff opening size acts = (acts ≡ []) ⊎ ((size ≡ 0) × ((last : List Act) × IsBrokenOff 0 (first_image opening) last × (acts ≡ last ++ Asked ∷ [])))

-- the size was 0, and one write and a sync went through
pub record HasCreated (opening : List ℕ) (tail : ℕ) (old new : Told) : Type 0 where
  pub empty : reads old.log ≡ []
  pub ran : Ran true (λ acts. acts ≡ secured 0 (first_image opening) ++ Asked ∷ []) old new
  pub is : reads new.log ≡ first_image opening
  pub journal : IsJournal (reads new.log) (opening ∷ [])
  pub place : tail ≡ tail_of (opening ∷ [])
  pub frames : sent new.log ≡ sent old.log
  pub pending : NothingPending new.log

abbrev pub Creates : List ℕ → Result ℕ CreateFault → Told → Told → Type 0
Creates opening (Ok tail) old new = HasCreated opening tail old new
Creates opening (Err SiteFault) old new = Ran false (IsCreateBrokenOff opening (length (reads old.log))) old new
Creates opening (Err NotEmpty) old new = Ran true (λ acts. acts ≡ Asked ∷ []) old new × (reads old.log ≢ [])
Creates opening (Err NoMemory) old new = new ≡ old
