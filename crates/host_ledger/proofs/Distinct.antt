-- Numbers that are distinct, by the search for an account.
use Rattle.std.proofs.Common.{◌≡◌, ◌↔◌, ℕ, Bool, true, false, cond, List, [], ◌∷◌, length, Option, Some, None, Bor, refl, subst, arith}
use Rattle.std.specs.Prelude.{bytes_eq, is_some, IsTrue}
use Rattle.std.specs.Option.{option_copied}
use Rattle.std.specs.List.{AllByRecursion, IsDistinct}
use Rattle.host_ledger.specs.declared.config.Account.{Account}
use Rattle.host_ledger.specs.Accounts.{account_in}
use Rattle.host_ledger.specs.Soundness.{numbers_of}
use Rattle.host_ledger.proofs.EndpointLists.{bytes_eq_sym}

-- the numbers of accounts differ from this one
abbrev pub Differ : List ℕ → List Account → Type 0
Differ aba accounts = AllByRecursion (λ y. bytes_eq aba y ≡ false) (numbers_of accounts)

first_differs : (b : Bool) (x : Account) (found : Option Account) (Others : Type 0) → (is_some found ≡ false) ↔ Others → (is_some (cond b (Some x) found) ≡ false) ↔ ((b ≡ false) × Others)
first_differs true x found Others both = (λ e. absurd (cc), λ p. absurd (let e = p.0 in cc))
first_differs false x found Others both = (λ e. (refl, both.0 e), λ p. both.1 p.1)

-- no account has this number where all differ from it
pub none_alike : (aba : List ℕ) (accounts : List Account) → (is_some (account_in accounts aba) ≡ false) ↔ Differ aba accounts
none_alike aba [] = (λ e. tt, λ d. refl)
none_alike aba (x ∷ rest) =
    subst (λ (b : Bool). (is_some (account_in (x ∷ rest) aba) ≡ false) ↔ ((b ≡ false) × Differ aba rest)) (bytes_eq_sym x.aba aba)
    (first_differs (bytes_eq x.aba aba) x (account_in rest aba) (Differ aba rest) (none_alike aba rest))

-- a first account whose number none of the others has leaves it to the others
pub passed : (left rest : List Account) (a : Account) (Whole : Type 0) → left ≡ a ∷ rest → is_some (account_in rest a.aba) ≡ false
    → IsDistinct bytes_eq (numbers_of left) ↔ Whole → IsDistinct bytes_eq (numbers_of rest) ↔ Whole
unfolding IsDistinct
passed left rest a Whole is none both =
    let first = subst (λ (l : List Account). IsDistinct bytes_eq (numbers_of l) ↔ Whole) is both in
    (λ d. first.0 ((none_alike a.aba rest).0 none, d), λ w. (first.1 w).1)

-- where another has its number they aren't distinct
pub repeated : (left rest : List Account) (a : Account) (Whole : Type 0) → left ≡ a ∷ rest → is_some (account_in rest a.aba) ≡ true
    → IsDistinct bytes_eq (numbers_of left) ↔ Whole → IsTrue false ↔ Whole
unfolding IsDistinct
repeated left rest a Whole is found both =
    let first = subst (λ (l : List Account). IsDistinct bytes_eq (numbers_of l) ↔ Whole) is both in
    (λ e. absurd (cc), λ w. let none : is_some (account_in rest a.aba) ≡ false = (none_alike a.aba rest).1 (first.1 w).0 in cc)

-- where none are left they are distinct
pub passed_all : (left : List Account) (Whole : Type 0) → length left ≡ 0 → IsDistinct bytes_eq (numbers_of left) ↔ Whole → IsTrue true ↔ Whole
unfolding IsDistinct
passed_all [] Whole none both = (λ e. both.0 tt, λ w. refl)
passed_all (x ∷ rest) Whole none both = absurd (omega (arith, none))

pub copied_some : (found : Option (Bor Account)) → is_some (option_copied found) ≡ is_some found
copied_some None = refl
copied_some (Some a) = refl
