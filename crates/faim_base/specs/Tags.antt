-- The tag numbers of the format (docs/FORMATS.md, "Tags").
use Rattle.std.specs.Prelude.{ℕ, ◌==◌, Bool, List, [], ◌∷◌}
use Rattle.std.specs.List.{list_any}

-- the 34 numbers, in order
abbrev pub tag_numbers : List ℕ
tag_numbers = 1100 ∷ 1110 ∷ 1120 ∷ 1130 ∷ 1500 ∷ 1510 ∷ 1520 ∷ 2000 ∷ 3100 ∷ 3320 ∷ 3400 ∷ 3500 ∷ 3600 ∷ 4000 ∷ 4100 ∷ 4200 ∷ 4320 ∷ 4400 ∷ 5000 ∷ 5100 ∷ 5200 ∷ 5400 ∷ 6000 ∷ 6100 ∷ 6110 ∷ 6200 ∷ 6210 ∷ 6300 ∷ 6310 ∷ 6400 ∷ 6410 ∷ 6420 ∷ 6500 ∷ 9000 ∷ []

abbrev pub is_tag_number : ℕ → Bool
is_tag_number n = list_any (λ t. t == n) tag_numbers
