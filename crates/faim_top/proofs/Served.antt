-- An account of a list is found in it.
use Rattle.std.proofs.Common.{◌≡◌, ℕ, zero, suc, ◌<◌, Bool, true, false, List, [], ◌∷◌, length, get_or, Option, Some, ◌∙◌, ap, refl, arith}
use Rattle.std.specs.Prelude.{bytes_eq, is_some, if◌then◌else◌}
use Rattle.std.proofs.lemmas.Slice.Eq.{bytes_eq-Decides}
use Rattle.host_ledger.specs.declared.config.Account.{Account}
use Rattle.host_ledger.specs.Accounts.{account_in}

same_bytes : (a : List ℕ) → bytes_eq a a ≡ true
same_bytes a = (bytes_eq-Decides a a).1 refl

by_first : (b : Bool) (x : Account) (found : Option Account) → is_some found ≡ true → is_some (if b then Some x else found) ≡ true
by_first true x found there = refl
by_first false x found there = there

pub is_served : (accounts : List Account) (i : ℕ) (a : Account) → i < length accounts → a ≡ get_or accounts i a → is_some (account_in accounts a.aba) ≡ true
is_served [] i a lt at = absurd (omega (arith, lt))
is_served (x ∷ rest) zero a lt at =
    ap (λ (b : Bool). is_some (if b then Some x else account_in rest a.aba)) (ap (λ (y : Account). bytes_eq x.aba y.aba) at ∙ same_bytes x.aba)
is_served (x ∷ rest) (suc i) a lt at = by_first (bytes_eq x.aba a.aba) x (account_in rest a.aba) (is_served rest i a (omega (arith, lt)) at)
