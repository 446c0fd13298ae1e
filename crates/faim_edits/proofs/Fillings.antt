-- What the fixed elements of a tag are filled with.
use Rattle.std.proofs.Common.{◌≡◌, ℕ, true, List, subst}
use Rattle.faim_tags.specs.Layouts.{classes}
use Rattle.faim_tags.specs.Spelling.{fill}

-- the classes are those of the tag's number
pub filled_by : (n k : ℕ) (bytes : List ℕ) → n ≡ k → fill (classes n) bytes ≡ true → fill (classes k) bytes ≡ true
filled_by n k bytes same filled = let P : ℕ → Type 0 = λ x. fill (classes x) bytes ≡ true in subst P same filled
