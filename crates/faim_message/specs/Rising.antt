-- Numbers in order.
use Rattle.std.specs.Prelude.{ℕ, nat_lt, ◌&&◌, Bool, true, List, [], ◌∷◌}
use Rattle.std.specs.List.{list_all}

-- each number is below all after it
abbrev pub rising : List ℕ → Bool
rising [] = true
rising (n ∷ more) = list_all (λ m. nat_lt n m) more && rising more
