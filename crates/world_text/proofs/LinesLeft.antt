-- Lines that are left after the accounts of a configuration, and after the line of a bank.
use Rattle.std.proofs.Common.{◌≡◌, ℕ, ◌<◌, Bool, true, false, List, [], ◌∷◌, length, refl, arith}
use Rattle.std.specs.Prelude.{Err, if◌then◌else◌}
use Rattle.bank_books.specs.declared.entries.BankOpening.{BankOpening}
use Rattle.host_ledger.specs.declared.config.Config.{Config}
use Rattle.world_text.specs.declared.script.Why.TheVariants.{Shape}
use Rattle.world_text.specs.BankText.{bank_after}
use Rattle.world_text.specs.Grammar.{config_after}
use Rattle.world_text.specs.Lines.{is_line_end, lines_of, onto_first}

-- what holds of all lines of which there is one at least
module _ (P : List (List ℕ) → Type 0) (some_lines : (line : List ℕ) (lines : List (List ℕ)) → P (line ∷ lines)) where
  one_more : (ends : Bool) (b : ℕ) (lines : List (List ℕ)) → P (if ends then [] ∷ lines else onto_first b lines)
  one_more true b lines = some_lines [] lines
  one_more false b [] = some_lines (b ∷ []) []
  one_more false b (line ∷ lines) = some_lines (b ∷ line) lines

  -- a text that has a byte has a line
  has_line : (text : List ℕ) → 0 < length text → P (lines_of text)
  has_line [] some = absurd (omega (arith, some))
  has_line (b ∷ text) some = one_more (is_line_end b) b (lines_of text)

pub line_left : (c : Config) (n : ℕ) (text : List ℕ) → 0 < length text → config_after c n (lines_of text) ≡ Err (record { line = n; why = Shape })
line_left c n text some = has_line (λ lines. config_after c n lines ≡ Err (record { line = n; why = Shape })) (λ line lines. refl) text some

pub second_line : (o : BankOpening) (text : List ℕ) → 0 < length text → bank_after o (lines_of text) ≡ Err (record { line = 2; why = Shape })
second_line o text some = has_line (λ lines. bank_after o lines ≡ Err (record { line = 2; why = Shape })) (λ line lines. refl) text some
