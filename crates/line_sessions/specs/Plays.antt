-- What stands at each moment of a session: of a node that takes one thing after another from its line.
use Rattle.std.specs.Prelude.{◌≡◌, ℕ, ◌≤◌, Bool, false, List, [], ◌∷◌, ◌++◌, length, take, if◌then◌else◌}
use Rattle.site_core.specs.Log.{Act, sent, Left}
use Rattle.site_core.specs.Told.{Told}

-- a node's part: which images stand for what it keeps, and what each thing that it takes makes of that and has it send
pub record Part (Kept Taken : Type 0) : Type 1 where
  pub Stands : List ℕ → Kept → Type 0
  pub after : Kept → Taken → Kept
  pub sends : Kept → Taken → List (List ℕ)

-- what is kept after several things in their order, and all that is sent at them
abbrev pub all_after : {K T : Type 0} → Part K T → K → List T → K
all_after part kept [] = kept
all_after part kept (t ∷ later) = all_after part (part.after kept t) later

abbrev pub all_sent : {K T : Type 0} → Part K T → K → List T → List (List ℕ)
all_sent part kept [] = []
all_sent part kept (t ∷ later) = part.sends kept t ++ all_sent part (part.after kept t) later

-- a moment: some things are done, and what they send is out; at most one more is begun. What it makes of what is kept stands,
-- and some first of its frames are out; or it doesn't stand, and none of its frames is out
pub record IsMoment {K T : Type 0} (part : Part K T) (kept : K) (taken : List T) (before : List (List ℕ)) (image : List ℕ) (found : List (List ℕ)) : Type 0 where
  pub done : List T
  pub begun : List T
  pub later : List T
  pub are : taken ≡ done ++ (begun ++ later)
  pub one : length begun ≤ 1
  pub stays : Bool
  pub count : ℕ
  pub stands : part.Stands image (all_after part kept (if stays then done ++ begun else done))
  pub few : count ≤ length (all_sent part (all_after part kept done) begun)
  pub unsent : stays ≡ false → count ≡ 0
  pub found_are : found ≡ before ++ (all_sent part kept done ++ take count (all_sent part (all_after part kept done) begun))

-- the site goes on from an earlier log, and each moment since then is one of the session
pub record Plays {K T : Type 0} (part : Part K T) (kept : K) (taken : List T) (old new : Told) : Type 0 where
  pub acts : List Act
  pub grows : new.log ≡ acts ++ old.log
  pub each : (image : List ℕ) (found : List (List ℕ)) → Left (length old.log) new.log image found → IsMoment part kept taken (sent old.log) image found

-- a session that came to its end: each frame is out
pub record PlaysOut {K T : Type 0} (part : Part K T) (kept : K) (taken : List T) (old new : Told) : Type 0 where
  pub plays : Plays part kept taken old new
  pub all : sent new.log ≡ sent old.log ++ all_sent part kept taken
