-- The accounts of a configuration (docs/FORMATS.md, "Configurations").
use Rattle.std.specs.Prelude.{ℕ, Bool, false, not, List, [], ◌∷◌, bytes_eq, Option, ℤ, pos}
use Rattle.std.specs.List.{find, filter, list_any}
use Rattle.std.specs.Option.{option_map_or}
use Rattle.host_ledger.specs.declared.config.Account.{Account}
use Rattle.host_ledger.specs.declared.config.Config.{Config}

-- the account with this number
abbrev pub account_in : List Account → List ℕ → Option Account
account_in accounts aba = find (λ a. bytes_eq a.aba aba) accounts

abbrev pub account_of : Config → List ℕ → Option Account
account_of c aba = account_in c.accounts aba

-- the endpoint that serves an account; none has no bytes
abbrev pub endpoint_of : Config → List ℕ → List ℕ
endpoint_of c aba = option_map_or (λ a. a.endpoint) (account_of c aba) []

-- the opening balance of an account in cents; none has 0
abbrev pub opening_of : Config → List ℕ → ℤ
opening_of c aba = option_map_or (λ a. a.opening) (account_of c aba) (pos 0)

-- what the balance of an account may not go below, in cents; none has 0
abbrev pub floor_of : Config → List ℕ → ℤ
floor_of c aba = option_map_or (λ a. a.floor) (account_of c aba) (pos 0)

-- the account is there, and this endpoint serves it
abbrev pub is_served_at : Config → List ℕ → List ℕ → Bool
is_served_at c aba e = option_map_or (λ a. bytes_eq a.endpoint e) (account_of c aba) false

-- some account is served at this endpoint
abbrev pub has_endpoint : List Account → List ℕ → Bool
has_endpoint accounts e = list_any (λ a. bytes_eq a.endpoint e) accounts

-- a list without the endpoints that equal one
abbrev pub without : List ℕ → List (List ℕ) → List (List ℕ)
without e endpoints = filter (λ f. not (bytes_eq f e)) endpoints

-- the endpoints of accounts, each once, in the order of their first accounts
abbrev pub endpoints_of : List Account → List (List ℕ)
endpoints_of [] = []
endpoints_of (a ∷ rest) = a.endpoint ∷ without a.endpoint (endpoints_of rest)
