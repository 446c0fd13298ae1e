-- The device calls that send frames, and what a stop at each moment of them may leave.
use Rattle.std.specs.Prelude.{◌≡◌, ◌⊎◌, ℕ, ◌+◌, ◌-◌, ◌<◌, ◌≤◌, List, [], ◌∷◌, ◌++◌, length, take, Bool, true, false, Result, Ok, Err, OnOk}
use Rattle.site_core.specs.Log.{Act, reads, sent, Left, NothingPending}
use Rattle.site_core.specs.Log.Act.{Sent, SendFailed}
use Rattle.site_core.specs.Told.{Told, Ran}

-- one send for each frame; the newest act first
abbrev pub sends : List (List ℕ) → List Act
sends [] = []
sends (f ∷ fs) = sends fs ++ Sent f ∷ []

-- some frames were sent, and the send of the next one failed, which left it in or out, or no trace
pub record AreBrokenOff (frames : List (List ℕ)) (acts : List Act) : Type 0 where
  pub number : ℕ
  pub some : number < length frames
  pub frame : List ℕ
  pub next : take (number + 1) frames ≡ take number frames ++ frame ∷ []
  pub are : (acts ≡ sends (take number frames)) ⊎ ((kept : Bool) × (acts ≡ SendFailed frame kept ∷ sends (take number frames)))

-- at Ok each frame is sent; else no call comes after the one that failed
abbrev pub SendCalls : {T E : Type 0} → List (List ℕ) → Result T E → Told → Told → Type 0
SendCalls frames (Ok done) old new = Ran true (λ acts. acts ≡ sends frames) old new
SendCalls frames (Err fault) old new = Ran false (AreBrokenOff frames) old new

-- the image of the log, and behind the frames of the log the first of these, at most so many
pub record IsSendMoment (frames : List (List ℕ)) (log : List Act) (most : ℕ) (image : List ℕ) (found : List (List ℕ)) : Type 0 where
  pub image_is : image ≡ reads log
  pub number : ℕ
  pub few : number ≤ length frames
  pub made : number ≤ most
  pub found_are : found ≡ sent log ++ take number frames

-- what sends say of each moment since they began, and of their end
pub record SendsTo {T E : Type 0} (frames : List (List ℕ)) (result : Result T E) (old new : Told) : Type 0 where
  pub each : (image : List ℕ) (found : List (List ℕ)) → Left (length old.log) new.log image found → IsSendMoment frames old.log (new.calls - old.calls) image found
  pub pending : NothingPending new.log
  pub image : reads new.log ≡ reads old.log
  pub most : new.calls ≤ old.calls + length frames
  pub all : OnOk result ((new.calls ≡ old.calls + length frames) × (sent new.log ≡ sent old.log ++ frames))

-- where nothing is pending
abbrev pub SendMoments : {T E : Type 0} → List (List ℕ) → Result T E → Told → Told → Type 0
SendMoments frames result old new = NothingPending old.log → SendsTo frames result old new

-- a stop at this send, counted from 1: those before it went through, and its own frame was sent or it wasn't
pub record IsSendStoppedAt (call : ℕ) (frames : List (List ℕ)) (old new : Told) : Type 0 where
  pub some : 1 ≤ call
  pub most : call ≤ length frames
  pub calls : new.calls ≡ old.calls + call
  pub frames_sent : (sent new.log ≡ sent old.log ++ take (call - 1) frames) ⊎ (sent new.log ≡ sent old.log ++ take call frames)
