-- How long the identifiers in tags are.
use Rattle.std.proofs.Common.{◌≡◌, ℕ, true, List, length, subst, ◌∙◌, refl}
use Rattle.faim_tags.specs.Layouts.{classes, row_of}
use Rattle.faim_tags.specs.Spelling.{fill}
use Rattle.faim_tags.proofs.Ends.{fill-run}

-- the fixed elements of a number have as many bytes as classes
fixed_length : (n k : ℕ) (bytes : List ℕ) → n ≡ k → fill (classes n) bytes ≡ true → length bytes ≡ length (classes k)
fixed_length n k bytes same filled =
    let P : ℕ → Type 0 = λ x. fill (classes x) bytes ≡ true in
    (fill-run (classes k) bytes (subst P same filled)).1

imads : length (classes 1520) ≡ 22
unfolding row_of
imads = refl

omads : length (classes 1120) ≡ 34
unfolding row_of
omads = refl

pub imad_length : (n : ℕ) (bytes : List ℕ) → n ≡ 1520 → fill (classes n) bytes ≡ true → length bytes ≡ 22
imad_length n bytes same filled = fixed_length n 1520 bytes same filled ∙ imads

pub omad_length : (n : ℕ) (bytes : List ℕ) → n ≡ 1120 → fill (classes n) bytes ≡ true → length bytes ≡ 34
omad_length n bytes same filled = fixed_length n 1120 bytes same filled ∙ omads
