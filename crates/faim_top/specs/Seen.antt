-- What an object tells before a call and after it.
use Rattle.std.specs.Prelude.{◌≡◌, ℕ, ◌≤◌, List, length, Option}
use Rattle.std.specs.Io.KnownBytes.{Consumes}
use Rattle.site_core.specs.Counts.{Rose}

-- one thing that an object tells, before a call and after it
pub record Seen (A : Type 0) : Type 0 where
  pub before : A
  pub after : A

abbrev pub seen : {Object A : Type 0} → (Object → A) → Object → Object → Seen A
seen tells old new = record { before = tells old; after = tells new }

-- a count of faults never falls; it rises where the call ends with its fault, and stands where it ends otherwise
pub record CountsFaults (fault : Type 0) (count : Seen ℕ) : Type 0 where
  pub later : count.before ≤ count.after
  pub failed : fault → Rose count.before count.after
  pub kept : (fault → ⊥) → count.after ≡ count.before

-- a source whose bytes are known loses so many at most, at their front
pub record LosesAtMost (most : ℕ) (left : Seen (Option (List ℕ))) : Type 0 where
  pub piece : List ℕ
  pub taken : Consumes left.before left.after piece
  pub within : length piece ≤ most
