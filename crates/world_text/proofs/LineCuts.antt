-- The first line of a text, and the lines after it.
use Rattle.std.proofs.Common.{◌≡◌, ℕ, ◌<◌, List, [], ◌∷◌, length, Some, None, arith}
use Rattle.std.proofs.lemmas.Bool.Decides.{nat_tests}
use Rattle.std.specs.Prelude.{◌==◌}
use Rattle.world_text.specs.Lines.{lines_of, until, after}

-- where an end of line stands, and where none does
pub cut_line : (text rest : List ℕ) → after (λ b. b == 10) text ≡ Some rest → lines_of text ≡ until (λ b. b == 10) text ∷ lines_of rest
cut_line [] rest cut = absurd cc
cut_line (b ∷ text) rest cut = grind (arith, nat_tests, cut_line text rest)

pub last_line : (text : List ℕ) → 0 < length text → after (λ b. b == 10) text ≡ None → lines_of text ≡ until (λ b. b == 10) text ∷ []
last_line [] some none = absurd (omega (arith, some))
last_line (b ∷ []) some none = grind (arith, nat_tests)
last_line (b ∷ c ∷ text) some none = grind (arith, nat_tests, last_line (c ∷ text))

-- what stands after is shorter
pub shorter_after : (text rest : List ℕ) → after (λ b. b == 10) text ≡ Some rest → length rest < length text
shorter_after [] rest cut = absurd cc
shorter_after (b ∷ text) rest cut = grind (arith, nat_tests, shorter_after text rest)
