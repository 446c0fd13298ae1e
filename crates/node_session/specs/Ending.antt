-- What the end of a session says of its input and of its journal.
use Rattle.std.specs.Prelude.{◌≡◌, ◌≢◌, ◌⊎◌, ℕ, ◌+◌, List, [], ◌∷◌, ◌++◌, length, take, Option, Result, Ok, Err}
use Rattle.std.specs.Io.KnownBytes.{IsAtEnd}
use Rattle.site_core.specs.Log.{reads, sent, NothingPending}
use Rattle.site_core.specs.Told.{Told, HasReason}
use Rattle.site_core.specs.Told.Part.{Disk, Line}
use Rattle.torn_journal.specs.Journal.{HasHeader, tail_of}
use Rattle.link_frames.specs.Frames.{Content as Frame, IsFrame}
use Rattle.link_frames.specs.Splits.{Splits, end_at}
use Rattle.link_frames.specs.declared.fault.FrameFault.{FrameFault}
use Rattle.link_frames.specs.declared.fault.FrameFault.TheVariants.{CutFrame}
use Rattle.framed_input.specs.Limits.{greatest_input}
use Rattle.journaled_list.specs.Payloads.{IsListDamage}
use Rattle.journaled_steps.specs.Steps.{IsBeyond}
use Rattle.line_sessions.specs.declared.ends.SessionEnd.{SessionEnd}
use Rattle.line_sessions.specs.declared.ends.SessionEnd.TheVariants as ends
use Rattle.line_sessions.specs.Plays.{PlaysOut, all_after}
use Rattle.node_session.specs.Kinds.{Event, Kind, KeptStands, events, part_of}
use Rattle.node_session.specs.Views.{frames_of}

-- all whole frames of the first 2^40 bytes that were taken have arrived, and this is left of these bytes
abbrev pub AllCame : {O E X A K : Type 0} → Kind O E X A K → List A → List ℕ → List ℕ → Type 0
AllCame kind arrivals bytes rest = Splits (take greatest_input bytes) (frames_of kind arrivals) rest

-- a fault of the bytes that are left, which for one that the end cuts off needs the end of the source
pub record IsBadFrame {O E X A K : Type 0} (kind : Kind O E X A K) (arrivals : List A) (bytes : List ℕ) (left : Option (List ℕ)) (fault : FrameFault) : Type 0 where
  pub rest : List ℕ
  pub all : AllCame kind arrivals bytes rest
  pub fault_is : end_at rest ≡ Err fault
  pub cut : (n : ℕ) → fault ≡ CutFrame n → IsAtEnd left

-- one frame more has come than arrived
pub record IsAhead {O E X A K : Type 0} (kind : Kind O E X A K) (arrivals : List A) (bytes : List ℕ) : Type 0 where
  pub next : Frame
  pub sound : IsFrame next
  pub first : (more : List ℕ) (all : List Frame) (rest : List ℕ) → Splits (take greatest_input bytes ++ more) all rest
      → (later : List Frame) × (all ≡ frames_of kind arrivals ++ (next ∷ later))

-- what each end says of the input: all of it was read and all its frames arrived; the frames of what was read arrived; one
-- more came, for which there was no reading; or nothing was read, since there is no sound journal
abbrev pub EndsInput : {O E X A K : Type 0} → Kind O E X A K → Result (Unit {0}) SessionEnd → List A → List ℕ → Option (List ℕ) → Type 0
EndsInput kind (Ok done) arrivals bytes left = Splits bytes (frames_of kind arrivals) [] × (take greatest_input bytes ≡ bytes) × IsAtEnd left
EndsInput kind (Err ends.ReadFault) arrivals bytes left = (rest : List ℕ) × AllCame kind arrivals bytes rest
EndsInput kind (Err (ends.Frame fault)) arrivals bytes left = IsBadFrame kind arrivals bytes left fault
EndsInput kind (Err ends.TooLong) arrivals bytes left = ((rest : List ℕ) × AllCame kind arrivals bytes rest) × (length bytes ≡ greatest_input + 1)
EndsInput kind (Err ends.ClockFault) arrivals bytes left = IsAhead kind arrivals bytes
EndsInput kind (Err ends.NoJournal) arrivals bytes left = (arrivals ≡ []) × (bytes ≡ [])
EndsInput kind (Err (ends.Damaged place)) arrivals bytes left = (arrivals ≡ []) × (bytes ≡ [])
EndsInput kind (Err other) arrivals bytes left = Unit {0}

-- nothing is pending, and the image stands for what is kept
pub record AtRest {O E X A K : Type 0} (kind : Kind O E X A K) (kept : K) (told : Told) : Type 0 where
  pub stands : KeptStands kind (reads told.log) kept
  pub pending : NothingPending told.log

-- all of these events are done, every frame of them is out, and the site is at rest
pub record IsDone {O E X A K : Type 0} (kind : Kind O E X A K) (kept : K) (done : List (Event A)) (old new : Told) : Type 0 where
  pub plays : PlaysOut (part_of kind) kept done old new
  pub rest : AtRest kind (all_after (part_of kind) kept done) new

-- what a session keeps after these arrivals
abbrev pub kept_at : {O E X A K : Type 0} → Kind O E X A K → K → List A → K
kept_at kind kept arrivals = all_after (part_of kind) kept (events arrivals)

-- all events but one last arrival are done, and the record of what that adds would end beyond the greatest tail
pub record IsFull {O E X A K : Type 0} (kind : Kind O E X A K) (kept : K) (arrivals : List A) (tail need : ℕ) (old new : Told) : Type 0 where
  pub before : List A
  pub last : A
  pub are : arrivals ≡ before ++ last ∷ []
  pub done : IsDone kind kept (events before) old new
  pub beyond : IsBeyond kind.rules (kind.step (kind.list_of (kept_at kind kept before)) last).adds (tail_of done.rest.stands.payloads) tail need

-- all events are done, or all but the last
pub record IsShort {O E X A K : Type 0} (kind : Kind O E X A K) (kept : K) (arrivals : List A) (old new : Told) : Type 0 where
  pub before : List (Event A)
  pub last : List (Event A)
  pub are : events arrivals ≡ before ++ last
  pub one : length last ≡ 1
  pub done : IsDone kind kept before old new

-- what each end says of the journal, whose image stood for what was kept
abbrev pub EndsSite : {O E X A K : Type 0} → Kind O E X A K → Result (Unit {0}) SessionEnd → K → List A → Told → Told → Type 0
EndsSite kind (Ok done) kept arrivals old new = IsDone kind kept (events arrivals) old new
EndsSite kind (Err ends.ReadFault) kept arrivals old new = IsDone kind kept (events arrivals) old new
EndsSite kind (Err (ends.Frame fault)) kept arrivals old new = IsDone kind kept (events arrivals) old new
EndsSite kind (Err ends.TooLong) kept arrivals old new = IsDone kind kept (events arrivals) old new
EndsSite kind (Err ends.ClockFault) kept arrivals old new = IsDone kind kept (events arrivals) old new
EndsSite kind (Err ends.DiskFault) kept arrivals old new = Unit {0}
EndsSite kind (Err ends.LineFault) kept arrivals old new = AtRest kind (kept_at kind kept arrivals) new
EndsSite kind (Err ends.NoJournal) kept arrivals old new = ⊥
EndsSite kind (Err (ends.Damaged place)) kept arrivals old new = ⊥
EndsSite kind (Err (ends.JournalFull tail need)) kept arrivals old new = IsFull kind kept arrivals tail need old new
EndsSite kind (Err ends.NoMemory) kept arrivals old new = IsShort kind kept arrivals old new

-- what is answered says of the image, which then stays, with nothing sent: it has no journal's header, or stands for no list
-- from this place on
abbrev pub Opens : {O E X A K : Type 0} → Kind O E X A K → Result (Unit {0}) SessionEnd → Told → Told → Type 0
Opens kind (Err ends.NoJournal) old new = (¬ HasHeader (reads old.log)) × (reads new.log ≡ reads old.log) × (sent new.log ≡ sent old.log)
Opens kind (Err (ends.Damaged place)) old new = IsListDamage kind.rules (reads old.log) place × (reads new.log ≡ reads old.log) × (sent new.log ≡ sent old.log)
Opens kind other old new = Unit {0}

-- this is answered, or a call of the disk or memory failed
abbrev pub Answered : SessionEnd → Result (Unit {0}) SessionEnd → Type 0
Answered end result = (result ≡ Err end) ⊎ ((result ≡ Err ends.DiskFault) ⊎ (result ≡ Err ends.NoMemory))

-- what is answered to an image that stands for a list, to a damaged one, and to one without the header
pub record AnswersImage {O E X A K : Type 0} (kind : Kind O E X A K) (image : List ℕ) (result : Result (Unit {0}) SessionEnd) : Type 0 where
  pub sound : (kept : K) → KeptStands kind image kept → (result ≢ Err ends.NoJournal) × ((place : ℕ) → result ≢ Err (ends.Damaged place))
  pub damaged : (place : ℕ) → IsListDamage kind.rules image place → Answered (ends.Damaged place) result
  pub headless : ¬ HasHeader image → Answered ends.NoJournal result

-- why a call of that part failed
abbrev pub EndReason : Result (Unit {0}) SessionEnd → Told → Told → Type 0
EndReason (Err ends.DiskFault) old new = HasReason Disk old new
EndReason (Err ends.LineFault) old new = HasReason Line old new
EndReason other old new = Unit {0}
