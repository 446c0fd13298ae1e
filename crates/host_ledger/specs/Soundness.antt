-- Which configurations are sound (docs/FORMATS.md, "Configurations").
use Rattle.std.specs.Prelude.{◌≡◌, ◌≢◌, ◌⊎◌, ℕ, ◌≤◌, ℤ, unsigned_abs, List, length, map, codes, bytes_eq, IsTrue}
use Rattle.std.specs.List.{AllByRecursion, IsDistinct}
use Rattle.faim_base.specs.Numbers.{IsDay, greatest_amount}
use Rattle.faim_base.specs.Ranges.{IsAba, IsEndpoint}
use Rattle.faim_base.specs.Text.{aba_holds}
use Rattle.host_ledger.specs.declared.config.Account.{Account}
use Rattle.host_ledger.specs.declared.config.Config.{Config}
use Rattle.host_ledger.specs.Accounts.{endpoints_of}

-- how many accounts a configuration may have
abbrev pub account_limit : ℕ
account_limit = 1024

-- how many endpoints they may be served at
abbrev pub endpoint_limit : ℕ
endpoint_limit = 64

-- the operator's endpoint, which has no accounts
abbrev pub operator : List ℕ
operator = codes "OPERATOR"

-- T for test, P for production
abbrev pub IsEnv : ℕ → Type 0
IsEnv env = (env ≡ 84) ⊎ (env ≡ 80)

-- the greatest cutoff, in minutes of the cycle date: its end
abbrev pub greatest_cutoff : ℕ
greatest_cutoff = 1440

abbrev pub IsCutoff : ℕ → Type 0
IsCutoff minutes = minutes ≤ greatest_cutoff

-- an opening balance or a floor in cents, as far below 0 as above it
abbrev pub IsBalance : ℤ → Type 0
IsBalance cents = unsigned_abs cents ≤ greatest_amount

-- what is asked of one account
pub record IsAccount (a : Account) : Type 0 where
  pub aba : IsAba a.aba
  pub check : IsTrue (aba_holds a.aba)
  pub endpoint : IsEndpoint a.endpoint
  pub not_operator : a.endpoint ≢ operator
  pub opening : IsBalance a.opening
  pub floor : IsBalance a.floor

-- the banks' numbers
abbrev pub numbers_of : List Account → List (List ℕ)
numbers_of accounts = map (λ a. a.aba) accounts

-- what is asked of accounts that stand together; none at all are such too
pub record AreAccounts (accounts : List Account) : Type 0 where
  pub each : AllByRecursion IsAccount accounts
  pub most : length accounts ≤ account_limit
  pub distinct : IsDistinct bytes_eq (numbers_of accounts)
  pub endpoints : length (endpoints_of accounts) ≤ endpoint_limit

-- a sound configuration
pub record IsConfig (c : Config) : Type 0 where
  pub env : IsEnv c.env
  pub date : IsDay c.date
  pub customer : IsCutoff c.customer
  pub bank : IsCutoff c.bank
  pub some : 1 ≤ length c.accounts
  pub accounts : AreAccounts c.accounts
