-- What a site in memory does where a site may choose: the calls that fail, what they leave, and the image after a stop.
use Rattle.std.specs.Prelude.{◌≡◌, ◌⊎◌, ℕ, ◌+◌, ◌<◌, List, ◌∷◌, Contains, Result, IsErr, IsTrue, if◌then◌else◌}
use Rattle.site_core.specs.declared.memory_site.MemSite.{MemSite}
use Rattle.site_core.specs.Counts.{Rose}
use Rattle.site_core.specs.Log.{Act, reads}
use Rattle.site_core.specs.Tears.{after_stop}
use Rattle.site_core.specs.Told.{Told, Part, IsDisturbed, IsFull, FailsUnarmed}
use Rattle.site_core.specs.Turns.{told_of}

-- what a site in memory tells
abbrev pub told_by : MemSite → Told
told_by site = told_of site.past site.counts site.disk site.line

-- the list of the calls that fail stays, and so does the tear
abbrev pub KeepsChoices : MemSite → MemSite → Type 0
KeepsChoices old new = (new.fails ≡ old.fails) × (new.tear ≡ old.tear)

-- which calls of a part fail, by the list of their numbers
pub record FailsByList {T E : Type 0} (part : Part) (result : Result T E) (fails : List ℕ) (old new : Told) : Type 0 where
  -- none but those whose number is listed, at a stop or after it, where memory is lacking, or at the end of counting
  pub only : IsErr result → Contains fails (old.calls + 1) ⊎ (IsDisturbed old new ⊎ IsFull old)
  -- each whose number is listed, and for no want of memory unless it reaches the stop
  pub listed : Contains fails (old.calls + 1) → IsErr result × (IsTrue old.stopped ⊎ ((old.stops < new.stops) ⊎ FailsUnarmed part old new))

-- a failed call leaves no act, and it looks for no memory where it reaches the stop
pub record LeavesNothing (old new : Told) : Type 0 where
  pub act : new.log ≡ old.log
  pub reached : old.stops < new.stops → new.lacks ≡ old.lacks

-- a failed call that reaches the stop leaves this act, or nothing where memory is lacking; any other leaves nothing
pub record IsCutShort (act : Act) (old new : Told) : Type 0 where
  pub reached : old.stops < new.stops → ((new.log ≡ act ∷ old.log) × (new.lacks ≡ old.lacks)) ⊎ ((new.log ≡ old.log) × Rose old.lacks new.lacks)
  pub otherwise : new.stops ≡ old.stops → new.log ≡ old.log

-- the image after a restart is what the tear makes of the log; where the site isn't stopped the tear is 0
abbrev pub ComesBack : ℕ → Told → Told → Type 0
ComesBack tear old new = reads new.log ≡ after_stop (if old.stopped then tear else 0) old.log
