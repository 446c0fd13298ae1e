-- Which openings of a bank's list are sound (docs/FORMATS.md, "Entries").
use Rattle.std.specs.Prelude.{◌≡◌, ◌⊎◌, ℕ}
use Rattle.faim_base.specs.Numbers.{IsDay}
use Rattle.faim_base.specs.Ranges.{IsEndpoint}
use Rattle.bank_books.specs.declared.entries.BankOpening.{BankOpening}

-- T for test, P for production
abbrev pub IsBankEnv : ℕ → Type 0
IsBankEnv env = (env ≡ 84) ⊎ (env ≡ 80)

pub record IsBankOpening (o : BankOpening) : Type 0 where
  pub endpoint : IsEndpoint o.endpoint
  pub env : IsBankEnv o.env
  pub date : IsDay o.date
