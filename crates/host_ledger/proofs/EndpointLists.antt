-- The endpoints of some accounts, when one account more comes.
use Rattle.std.proofs.Common.{◌≡◌, ℕ, ◌+◌, ◌<◌, ◌≤◌, Bool, true, false, List, [], ◌∷◌, ◌++◌, length, take, get_or, sym, ◌∙◌, ap, refl, append-nil, length-append, arith}
use Rattle.std.specs.Prelude.{bytes_eq, not, ◌||◌, if◌then◌else◌}
use Rattle.std.proofs.lemmas.List.{take_more}
use Rattle.std.proofs.lemmas.List.Elements.{filter-append}
use Rattle.std.proofs.lemmas.Slice.Eq.{bytes_eq-Decides}
use Rattle.std.proofs.lemmas.Bool.Decides.{same_from_decides}
use Rattle.host_ledger.specs.declared.config.Account.{Account}
use Rattle.host_ledger.specs.Accounts.{has_endpoint, without, endpoints_of}

pub bytes_eq_sym : (a b : List ℕ) → bytes_eq a b ≡ bytes_eq b a
bytes_eq_sym a b = same_from_decides (bytes_eq a b) (bytes_eq b a) (bytes_eq-Decides a b) (
    let d = bytes_eq-Decides b a in (λ e. sym (d.0 e), λ e. d.1 (sym e)))

without_both : (e : List ℕ) (xs ys : List (List ℕ)) → without e (xs ++ ys) ≡ without e xs ++ without e ys
without_both e xs ys = filter-append (λ (f : List ℕ). not (bytes_eq f e)) xs ys

-- one endpoint more after those of the other accounts, by whether it is the first account's and whether it is among them
grown : (q h : Bool) (e f : List ℕ) (es : List (List ℕ)) → bytes_eq f e ≡ q
    → e ∷ without e (if h then es else es ++ f ∷ []) ≡ (if q || h then e ∷ without e es else (e ∷ without e es) ++ f ∷ [])
grown true true e f es same = refl
grown true false e f es same = ap (λ (l : List (List ℕ)). e ∷ l) (without_both e es (f ∷ []) ∙ ap (λ (b : Bool). without e es ++ (if not b then f ∷ [] else [])) same ∙ append-nil (without e es))
grown false true e f es same = refl
grown false false e f es same = ap (λ (l : List (List ℕ)). e ∷ l) (without_both e es (f ∷ []) ∙ ap (λ (b : Bool). without e es ++ (if not b then f ∷ [] else [])) same)

-- an account's endpoint comes last, where it isn't there yet
pub one_more : (accounts : List Account) (a : Account) → endpoints_of (accounts ++ a ∷ []) ≡ (if has_endpoint accounts a.endpoint then endpoints_of accounts else endpoints_of accounts ++ a.endpoint ∷ [])
one_more [] a = refl
one_more (x ∷ rest) a =
    ap (λ (l : List (List ℕ)). x.endpoint ∷ without x.endpoint l) (one_more rest a)
    ∙ grown (bytes_eq x.endpoint a.endpoint) (has_endpoint rest a.endpoint) x.endpoint a.endpoint (endpoints_of rest) (bytes_eq_sym a.endpoint x.endpoint)

counted : (h : Bool) (es : List (List ℕ)) (e : List ℕ) → length (if h then es else es ++ e ∷ []) ≡ length es + (if h then 0 else 1)
counted true es e = omega arith
counted false es e = omega (arith, length-append es (e ∷ []))

-- how many endpoints the accounts up to a place have
pub one_counted : (accounts : List Account) (i : ℕ) (a : Account) → i < length accounts → a ≡ get_or accounts i a
    → length (endpoints_of (take (i + 1) accounts)) ≡ length (endpoints_of (take i accounts)) + (if has_endpoint (take i accounts) a.endpoint then 0 else 1)
one_counted accounts i a lt is =
    ap (λ (l : List Account). length (endpoints_of l)) (take_more accounts i a lt ∙ ap (λ (x : Account). take i accounts ++ x ∷ []) (sym is))
    ∙ ap (λ (l : List (List ℕ)). length l) (one_more (take i accounts) a)
    ∙ counted (has_endpoint (take i accounts) a.endpoint) (endpoints_of (take i accounts)) a.endpoint

pub one_at_most : (b : Bool) → (if b then 0 else 1) ≤ 1
one_at_most true = omega arith
one_at_most false = omega arith
