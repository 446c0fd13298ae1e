-- What a site in memory stores, as the log that it tells.
use Rattle.std.specs.Prelude.{◌≡◌, ◌⊎◌, ℕ, ◌+◌, ◌-◌, ◌%◌, ◌==◌, ◌≤◌, min, if◌then◌else◌, List, [], ◌∷◌, ◌++◌, length, take, drop, replicate, true, false}
use Rattle.site_core.specs.declared.past.Call.{Call}
use Rattle.site_core.specs.declared.past.Call.TheVariants as stored
use Rattle.site_core.specs.declared.patch.Patch.{Patch}
use Rattle.site_core.specs.Log.{Act, reads}
use Rattle.site_core.specs.Log.Act.{Asked, Wrote, WriteFailed, Synced, SyncFailed, Sent, SendFailed, Restarted}
use Rattle.site_core.specs.Tears.{after_stop}

-- the calls, the newest first, and the frames that were sent, the newest first
abbrev pub acts_of : List Call → List (List ℕ) → List Act
acts_of [] frames = []
acts_of (stored.Asked ∷ calls) frames = Asked ∷ acts_of calls frames
acts_of (stored.Wrote at bytes ∷ calls) frames = Wrote at bytes ∷ acts_of calls frames
acts_of (stored.Torn at bytes ∷ calls) frames = WriteFailed at bytes bytes ∷ acts_of calls frames
acts_of (stored.Synced ∷ calls) frames = Synced ∷ acts_of calls frames
acts_of (stored.Sent ∷ calls) (f ∷ frames) = Sent f ∷ acts_of calls frames
acts_of (stored.Sent ∷ calls) [] = acts_of calls []
acts_of (stored.Kept ∷ calls) (f ∷ frames) = SendFailed f true ∷ acts_of calls frames
acts_of (stored.Kept ∷ calls) [] = acts_of calls []
acts_of (stored.Lost frame ∷ calls) frames = SendFailed frame false ∷ acts_of calls frames
acts_of (stored.Restarted tear ∷ calls) frames = Restarted (after_stop tear (acts_of calls frames)) ∷ acts_of calls frames

-- what a write at a place covers: the range that changes, with a gap in front, and what stood there
abbrev pub patch_of : List ℕ → ℕ → List ℕ → Patch
patch_of image at [] = record { from = 0; end = 0; old = [] }
patch_of image at (b ∷ bytes) = record { from = min at (length image); end = at + length (b ∷ bytes); old = take (length (b ∷ bytes)) (drop at image) }

-- the patches of the writes since the last sync or restart, the newest first
abbrev pub patches : List Act → List Patch
patches [] = []
patches (Synced ∷ log) = []
patches (Restarted image ∷ log) = []
patches (Wrote at bytes ∷ log) = patch_of (reads log) at bytes ∷ patches log
patches (WriteFailed at bytes found ∷ log) = patch_of (reads log) at (take (length bytes) found) ∷ patches log
patches (Asked ∷ log) = patches log
patches (SyncFailed ∷ log) = patches log
patches (Sent frame ∷ log) = patches log
patches (SendFailed frame kept ∷ log) = patches log

-- the image without what a write covered, and without each of several, the newest first
abbrev pub restored : Patch → List ℕ → List ℕ
restored p image = take p.from image ++ p.old ++ drop p.end image

abbrev pub undone : List Patch → List ℕ → List ℕ
undone [] image = image
undone (p ∷ ps) image = undone ps (restored p image)

-- the image with one byte all over what a write covered, and over what each of several did
abbrev pub filled : ℕ → Patch → List ℕ → List ℕ
filled mark p image = take p.from image ++ replicate (p.end - p.from) mark ++ drop p.end image

abbrev pub filled_all : ℕ → List Patch → List ℕ → List ℕ
filled_all mark [] image = image
filled_all mark (p ∷ ps) image = filled_all mark ps (filled mark p image)

-- what a tear leaves where writes covered the image
abbrev pub torn_up : ℕ → List Patch → List ℕ → List ℕ
torn_up tear ps image = if tear == 0 then undone ps image else (if tear == 1 then image else filled_all (tear % 256) ps image)

-- what was there before a write is no longer than the range, and shorter only at the end of the image
pub record Fits (p : Patch) (image : List ℕ) : Type 0 where
  pub order : p.from + length p.old ≤ p.end
  pub within : p.end ≤ length image
  pub whole : (p.from + length p.old ≡ p.end) ⊎ (p.end ≡ length image)

abbrev pub AllFit : List Patch → List ℕ → Type 0
AllFit [] image = Unit {0}
AllFit (p ∷ ps) image = Fits p image × AllFit ps (restored p image)

-- the range lies within so many bytes
pub record IsWithin (long : ℕ) (p : Patch) : Type 0 where
  pub order : p.from ≤ p.end
  pub within : p.end ≤ long

abbrev pub AllWithin : ℕ → List Patch → Type 0
AllWithin long [] = Unit {0}
AllWithin long (p ∷ ps) = IsWithin long p × AllWithin long ps

-- each failed write reads as it was given
abbrev pub IsPlain : List Act → Type 0
IsPlain [] = Unit {0}
IsPlain (WriteFailed at bytes found ∷ log) = (take (length bytes) found ≡ bytes) × IsPlain log
IsPlain (Wrote at bytes ∷ log) = IsPlain log
IsPlain (Synced ∷ log) = IsPlain log
IsPlain (Restarted image ∷ log) = IsPlain log
IsPlain (Asked ∷ log) = IsPlain log
IsPlain (SyncFailed ∷ log) = IsPlain log
IsPlain (Sent frame ∷ log) = IsPlain log
IsPlain (SendFailed frame kept ∷ log) = IsPlain log
