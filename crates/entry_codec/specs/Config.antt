-- The one spelling of a configuration, and its reading from the front (docs/FORMATS.md, "Bytes of configurations").
use Rattle.std.specs.Prelude.{ℕ, ◌==◌, zero, suc, List, [], ◌∷◌, ◌++◌, length, Option, Some, None, if◌then◌else◌, ℤ}
use Rattle.std.specs.Int.{w16, w32, w64, to_be_bytes, cast_unsigned, cast_signed}
use Rattle.std.specs.List.{flat_map}
use Rattle.host_ledger.specs.declared.config.Account.{Account}
use Rattle.host_ledger.specs.declared.config.Config.{Config}
use Rattle.entry_codec.specs.Reading.{◌>>=◌, number_at, byte_at, date_at, endpoint_at, aba_at}

-- cents, a negative number in two's complement
abbrev pub balance_bytes : ℤ → List ℕ
balance_bytes cents = to_be_bytes w64 (cast_unsigned w64 cents)

-- the bank's number, the endpoint, the opening balance, the floor
abbrev pub account_bytes : Account → List ℕ
account_bytes a = a.aba ++ (a.endpoint ++ (balance_bytes a.opening ++ balance_bytes a.floor))

-- how many accounts there are, and each of them
abbrev pub accounts_bytes : List Account → List ℕ
accounts_bytes accounts = to_be_bytes w16 (length accounts) ++ flat_map account_bytes accounts

-- C, the code, the date, both cutoffs, the accounts
abbrev pub config_bytes : Config → List ℕ
config_bytes c = 67 ∷ (c.env ∷ [] ++ (to_be_bytes w32 c.date ++ (to_be_bytes w16 c.customer ++ (to_be_bytes w16 c.bank ++ accounts_bytes c.accounts))))

-- an opening balance or a floor, and the bytes after it; whether it lies in its range is asked later
abbrev pub balance_at : List ℕ → Option (ℤ × List ℕ)
balance_at bytes = do
  n ← number_at w64 bytes
  Some (cast_signed w64 n.0, n.1)

-- an account
unfoldable pub account_at : List ℕ → Option (Account × List ℕ)
account_at bytes = do
  a ← aba_at bytes
  e ← endpoint_at a.1
  o ← balance_at e.1
  f ← balance_at o.1
  Some (record { aba = a.0; endpoint = e.0; opening = o.0; floor = f.0 }, f.1)

-- so many accounts
unfoldable pub some_accounts_at : ℕ → List ℕ → Option (List Account × List ℕ)
some_accounts_at zero bytes = Some ([], bytes)
some_accounts_at (suc n) bytes = do
  a ← account_at bytes
  more ← some_accounts_at n a.1
  Some (a.0 ∷ more.0, more.1)

-- the accounts after their count
unfoldable pub accounts_at : List ℕ → Option (List Account × List ℕ)
accounts_at bytes = do
  n ← number_at w16 bytes
  some_accounts_at n.0 n.1

-- what stands after the C
unfoldable pub fields_at : List ℕ → Option (Config × List ℕ)
fields_at bytes = do
  e ← byte_at bytes
  d ← date_at e.1
  c ← number_at w16 d.1
  b ← number_at w16 c.1
  a ← accounts_at b.1
  Some (record { env = e.0; date = d.0; customer = c.0; bank = b.0; accounts = a.0 }, a.1)

-- what a configuration's bytes hold, sound or not
unfoldable pub config_at : List ℕ → Option (Config × List ℕ)
config_at bytes = do
  x ← byte_at bytes
  if x.0 == 67 then fields_at x.1 else None
