-- All the edits that a message fails.
use Rattle.std.specs.Prelude.{◌≡◌, ℕ, ◌⊎◌, not, List, map, filter}
use Rattle.faim_message.specs.declared.form.Form.TheVariants.{Input}
use Rattle.faim_message.specs.Spelling.{Content, IsMessage}
use Rattle.faim_message.specs.Edits.{edits}

-- a host's code: test or production
abbrev pub IsEnv : ℕ → Type 0
IsEnv env = (env ≡ 84) ⊎ (env ≡ 80)

-- the numbers of the edits of the table, in its order
abbrev pub table_numbers : ℕ → List ℕ
table_numbers env = map (λ e. e.number) (edits env)

-- the numbers of all the edits that a message fails
abbrev pub failed_edits : ℕ → Content → List ℕ
failed_edits env m = map (λ e. e.number) (filter (λ e. not (e.holds m)) (edits env))

-- a submission that fails these edits, and no others
pub record Fails (env : ℕ) (numbers : List ℕ) : Type 0 where
  pub message : Content
  pub sound : IsMessage message
  pub form : message.form ≡ Input
  pub failed : failed_edits env message ≡ numbers
