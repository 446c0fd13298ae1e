-- One account more beside others.
use Rattle.std.proofs.Common.{◌≡◌, ℕ, ◌<◌, ◌≤◌, Bool, true, false, List, [], ◌∷◌, ◌++◌, length, Option, Some, None, refl, sym, subst, length-append, arith}
use Rattle.std.specs.Prelude.{bytes_eq, if◌then◌else◌}
use Rattle.std.specs.List.{AllByRecursion, IsDistinct}
use Rattle.host_ledger.specs.declared.config.Account.{Account}
use Rattle.host_ledger.specs.Accounts.{account_in, has_endpoint, endpoints_of}
use Rattle.host_ledger.specs.Soundness.{account_limit, endpoint_limit, numbers_of, IsAccount, AreAccounts}
use Rattle.host_ledger.proofs.EndpointLists.{one_more}
use Rattle.host_ledger.proofs.Distinct.{Differ}

each_more : (accounts : List Account) (a : Account) → AllByRecursion IsAccount accounts → IsAccount a → AllByRecursion IsAccount (accounts ++ a ∷ [])
each_more [] a all one = (one, tt)
each_more (x ∷ rest) a all one = (all.0, each_more rest a all.1 one)

differ_more : (aba : List ℕ) (accounts : List Account) (a : Account) → Differ aba accounts → bytes_eq aba a.aba ≡ false → Differ aba (accounts ++ a ∷ [])
differ_more aba [] a others one = (one, tt)
differ_more aba (x ∷ rest) a others one = (others.0, differ_more aba rest a others.1 one)

-- the first account hasn't the number that none has
first_other : (b : Bool) (x : Account) (found : Option Account) → (if b then Some x else found) ≡ None → (b ≡ false) × (found ≡ None)
first_other true x found e = absurd cc
first_other false x found e = (refl, e)

distinct_more : (accounts : List Account) (a : Account) → IsDistinct bytes_eq (numbers_of accounts) → account_in accounts a.aba ≡ None → IsDistinct bytes_eq (numbers_of (accounts ++ a ∷ []))
unfolding IsDistinct
distinct_more [] a distinct none = (tt, tt)
distinct_more (x ∷ rest) a distinct none =
    let other = first_other (bytes_eq x.aba a.aba) x (account_in rest a.aba) none in
    (differ_more x.aba rest a distinct.0 other.0, distinct_more rest a distinct.1 other.1)

few_more : (h : Bool) (es : List (List ℕ)) (e : List ℕ) → length es ≤ endpoint_limit → (h ≡ false → length es < endpoint_limit) → length (if h then es else es ++ e ∷ []) ≤ endpoint_limit
few_more true es e few room = few
few_more false es e few room = let left : length es < endpoint_limit = room refl in omega (arith, left, length-append es (e ∷ []))

pub one_account_more : (accounts : List Account) (a : Account) → AreAccounts accounts → IsAccount a → account_in accounts a.aba ≡ None
    → length accounts < account_limit → (has_endpoint accounts a.endpoint ≡ false → length (endpoints_of accounts) < endpoint_limit)
    → AreAccounts (accounts ++ a ∷ [])
one_account_more accounts a are one none room place = record {
  each = each_more accounts a are.each one;
  most = omega (arith, room, length-append accounts (a ∷ []));
  distinct = distinct_more accounts a are.distinct none;
  endpoints = subst (λ (es : List (List ℕ)). length es ≤ endpoint_limit) (sym (one_more accounts a)) (few_more (has_endpoint accounts a.endpoint) (endpoints_of accounts) a.endpoint are.endpoints place);
}
