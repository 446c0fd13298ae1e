-- Counts of failed reads.
use Rattle.std.specs.Prelude.{◌≡◌, ℕ, ◌≤◌}
use Rattle.site_core.specs.Counts.{Rose}

-- the count never falls; it rises where the call ends with its fault, and stands where it ends otherwise
pub record CountsFault (fault : Type 0) (before after : ℕ) : Type 0 where
  pub later : before ≤ after
  pub failed : fault → Rose before after
  pub kept : (fault → ⊥) → after ≡ before
