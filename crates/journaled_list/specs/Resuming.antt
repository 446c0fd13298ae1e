-- What a resume says of its calls, of each moment since it began, and of its end.
use Rattle.std.specs.Prelude.{◌≡◌, ◌⊎◌, ℕ, ◌+◌, ◌-◌, ◌*◌, ◌≤◌, Bool, true, false, List, [], ◌++◌, length, take, Some, Result, Ok, Err, OnOk, IfOk}
use Rattle.site_core.specs.Log.{reads, sent, Left, NothingPending}
use Rattle.site_core.specs.Told.{Told}
use Rattle.torn_journal.specs.Journal.{IsJournal}
use Rattle.torn_journal.specs.Resume.{HasLooked}
use Rattle.store_forward.specs.Sending.{SendCalls}
use Rattle.journaled_list.specs.declared.faults.OpenFault.{OpenFault}
use Rattle.journaled_list.specs.declared.faults.OpenFault.TheVariants.{SiteFault, LineFault, NoHeader, Damaged, NoMemory}
use Rattle.journaled_list.specs.Rules.{Rules, Listed}
use Rattle.journaled_list.specs.Loading.{Found, Finds, no_disk_fault}
use Rattle.journaled_list.specs.Payloads.{Stands}
use Rattle.journaled_list.specs.Ready.{IsReady}

-- the journal is read with nothing sent, and then the frames are sent with nothing written; no call comes after one that failed
pub record ReadsAndSends {T : Type 0} (frames : List (List ℕ)) (result : Result T OpenFault) (old new : Told) : Type 0 where
  pub mid : Told
  pub looked : HasLooked true old mid
  pub sends : SendCalls frames result mid new

-- the frames are those of what was found
abbrev pub ResumeCalls : {T O E : Type 0} → Rules O E → (T → Found O E) → (Listed O E → ℕ → List (List ℕ)) → Result T OpenFault → Told → Told → Type 0
ResumeCalls rules view again (Ok kept) old new = ReadsAndSends (again (view kept).list (view kept).last) (Ok kept) old new
ResumeCalls {T = T} {O = O} {E = E} rules view again (Err LineFault) old new =
    (found : Found O E) × Finds rules (Some old) found × ReadsAndSends {T = T} (again found.list found.last) (Err LineFault) old new
ResumeCalls rules view again (Err SiteFault) old new = HasLooked false old new
ResumeCalls rules view again (Err NoHeader) old new = HasLooked true old new
ResumeCalls rules view again (Err (Damaged place)) old new = HasLooked true old new
ResumeCalls rules view again (Err NoMemory) old new = HasLooked true old new

-- the calls of a node that makes first what it reads with: those of a resume, or none, where there is no memory for that
abbrev pub OpenCalls : {T O E : Type 0} → Rules O E → (T → Found O E) → (Listed O E → ℕ → List (List ℕ)) → Result T OpenFault → Told → Told → Type 0
OpenCalls rules view again (Err NoMemory) old new = (new ≡ old) ⊎ HasLooked true old new
OpenCalls rules view again (Ok kept) old new = ResumeCalls rules view again (Ok kept) old new
OpenCalls rules view again (Err fault) old new = ResumeCalls rules view again (Err fault) old new

abbrev unread : OpenFault → Result (Unit {0}) OpenFault
unread fault = Err fault

-- nothing is sent again
abbrev pub none_again : {O E : Type 0} → Listed O E → ℕ → List (List ℕ)
none_again list last = []

-- the calls of a node that makes first what it reads with, and then reads and sends nothing
abbrev pub ReadCalls : {T : Type 0} → Result T OpenFault → Told → Told → Type 0
ReadCalls (Err NoMemory) old new = (new ≡ old) ⊎ HasLooked true old new
ReadCalls (Ok kept) old new = HasLooked true old new
ReadCalls (Err fault) old new = HasLooked (no_disk_fault (unread fault)) old new

-- the image stands for the same, and behind the frames sent before there are the first of these
pub record IsResumeMoment {O E : Type 0} (rules : Rules O E) (list : Listed O E) (last : ℕ) (frames : List (List ℕ)) (old new : Told) (image : List ℕ) (found : List (List ℕ)) : Type 0 where
  pub stands : Stands rules image list last
  pub number : ℕ
  pub few : number ≤ length frames
  pub made : number ≤ new.calls - (old.calls + 1)
  pub found_are : found ≡ sent old.log ++ take number frames

-- some frames may be sent
abbrev pub may_have_sent : {T : Type 0} → Result T OpenFault → Bool
may_have_sent (Ok kept) = true
may_have_sent (Err LineFault) = true
may_have_sent (Err SiteFault) = false
may_have_sent (Err NoHeader) = false
may_have_sent (Err (Damaged place)) = false
may_have_sent (Err NoMemory) = false

pub record Resumes {T O E : Type 0} (rules : Rules O E) (view : T → Found O E) (result : Result T OpenFault) (list : Listed O E) (last : ℕ) (frames : List (List ℕ)) (old new : Told) : Type 0 where
  pub each : (image : List ℕ) (found : List (List ℕ)) → Left (length old.log) new.log image found → IsResumeMoment rules list last frames old new image found
  pub none_sent : may_have_sent result ≡ false → (image : List ℕ) (found : List (List ℕ)) → Left (length old.log) new.log image found → found ≡ sent old.log
  pub pending : NothingPending new.log
  pub image : reads new.log ≡ reads old.log
  -- at most twice as many calls as there are records, five more, and one for each frame
  pub most : (payloads : List (List ℕ)) → IsJournal (reads old.log) payloads → new.calls ≤ old.calls + 2 * length payloads + 5 + length frames
  -- at Ok all frames are sent, and there were more calls than frames
  pub all : OnOk result ((sent new.log ≡ sent old.log ++ frames) × (old.calls + 1 + length frames ≤ new.calls))
  pub ready : IfOk result (λ kept. IsReady rules (view kept) new × ((view kept).list ≡ list) × ((view kept).last ≡ last))

-- where nothing is pending, and the image stands for a list
abbrev pub ResumesAll : {T O E : Type 0} → Rules O E → (T → Found O E) → (Listed O E → ℕ → List (List ℕ)) → Result T OpenFault → Told → Told → Type 0
ResumesAll {O = O} {E = E} rules view again result old new =
    (list : Listed O E) (last : ℕ) → NothingPending old.log → Stands rules (reads old.log) list last → Resumes rules view result list last (again list last) old new
