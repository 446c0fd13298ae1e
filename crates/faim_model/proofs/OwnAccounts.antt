-- Accounts whose numbers are distinct: each is found by its number, and a sum at one number is counted once.
use Rattle.std.proofs.Common.{◌≡◌, ⊎_elim, refl, sym, ◌∙◌, ap, subst, ℕ, ◌+◌, Bool, true, false, List, [], ◌∷◌, Some, None, is_none, if◌then◌else◌, arith}
use Rattle.std.specs.List.{Contains, IsDistinct, AllByRecursion}
use Rattle.std.proofs.lemmas.Map.Keys.{IsDistinct-head, IsDistinct-tail}
use Rattle.std.proofs.lemmas.Bool.{false_from_ne_true}
use Rattle.std.specs.Str.{bytes_eq}
use Rattle.host_ledger.specs.declared.config.Account.{Account}
use Rattle.host_ledger.specs.declared.config.Config.{Config}
use Rattle.host_ledger.specs.Accounts.{account_in}
use Rattle.host_ledger.specs.Soundness.{IsConfig, numbers_of}
use Rattle.host_ledger.specs.Lists.{summed}
use Rattle.faim_model.proofs.Imads.{bytes_equal, bytes_pass}
use Rattle.faim_model.proofs.Members.{first_or_later, none_in}

-- no account has the number of one before it
abbrev pub Apart : List Account → Type 0
Apart [] = Unit {0}
Apart (a ∷ rest) = (account_in rest a.aba ≡ None) × Apart rest

found_here : (a : Account) (rest : List Account) (aba : List ℕ) → bytes_eq a.aba aba ≡ true → account_in (a ∷ rest) aba ≡ Some a
found_here a rest aba same = rw same refl

passed_by : (a : Account) (rest : List Account) (aba : List ℕ) → bytes_eq a.aba aba ≡ false → account_in (a ∷ rest) aba ≡ account_in rest aba
passed_by a rest aba other = rw other refl

swapped : (a b : List ℕ) → bytes_eq a b ≡ false → bytes_eq b a ≡ false
swapped a b other = false_from_ne_true (bytes_eq b a)
    (λ same. let both : true ≡ false = sym (bytes_pass a b (sym (bytes_equal b a same))) ∙ other in absurd cc)

none_with : (aba : List ℕ) (accounts : List Account) → AllByRecursion (λ y. bytes_eq aba y ≡ false) (numbers_of accounts)
    → account_in accounts aba ≡ None
none_with aba [] others = refl
none_with aba (a ∷ rest) others = passed_by a rest aba (swapped aba a.aba others.0) ∙ none_with aba rest others.1

apart_from : (accounts : List Account) → IsDistinct bytes_eq (numbers_of accounts) → Apart accounts
apart_from [] distinct = tt
apart_from (a ∷ rest) distinct = (
  none_with a.aba rest (IsDistinct-head bytes_eq a.aba (numbers_of rest) distinct),
  apart_from rest (IsDistinct-tail bytes_eq a.aba (numbers_of rest) distinct),
)

-- the accounts of a sound configuration
pub sound_apart : (c : Config) → IsConfig c → Apart c.accounts
sound_apart c sound = apart_from c.accounts sound.accounts.distinct

found_later : (b : Account) (rest : List Account) (a : Account) → account_in rest b.aba ≡ None → account_in rest a.aba ≡ Some a
    → account_in (b ∷ rest) a.aba ≡ Some a
found_later b rest a none found =
    let other : bytes_eq b.aba a.aba ≡ false = false_from_ne_true (bytes_eq b.aba a.aba)
    (λ same. let both : None ≡ Some a = sym none ∙ ap (account_in rest) (bytes_equal b.aba a.aba same) ∙ found in absurd cc) in
    passed_by b rest a.aba other ∙ found

-- an account is found by its number
pub found_by_number : (accounts : List Account) → Apart accounts → (a : Account) → Contains accounts a → account_in accounts a.aba ≡ Some a
found_by_number [] apart a there = absurd (none_in a there)
found_by_number (b ∷ rest) apart a there =
    ⊎_elim
    (λ (here : a ≡ b). subst (λ (x : Account). account_in (b ∷ rest) x.aba ≡ Some x) (sym here) (found_here b rest b.aba (bytes_pass b.aba b.aba refl)))
    (λ (later : Contains rest a). found_later b rest a apart.0 (found_by_number rest apart.1 a later))
    (first_or_later b a rest there)

-- the summand of an account: an amount at one number
abbrev pub at_number : List ℕ → ℕ → Account → ℕ
at_number aba n a = if bytes_eq aba a.aba then n else 0

absent_step : (a : Account) (rest : List Account) (aba : List ℕ) (n : ℕ) (same : Bool) → bytes_eq aba a.aba ≡ same
    → account_in (a ∷ rest) aba ≡ None → (account_in rest aba ≡ None → summed (at_number aba n) rest ≡ 0)
    → summed (at_number aba n) rest + (if same then n else 0) ≡ 0
absent_step a rest aba n true test none others =
    let found : account_in (a ∷ rest) aba ≡ Some a = found_here a rest aba (bytes_pass a.aba aba (sym (bytes_equal aba a.aba test))) in
    let both : None ≡ Some a = sym none ∙ found in absurd cc
absent_step a rest aba n false test none others =
    let zero_rest : summed (at_number aba n) rest ≡ 0 = others (sym (passed_by a rest aba (swapped aba a.aba test)) ∙ none) in
    omega arith

-- no account has the number
sum_absent : (accounts : List Account) (aba : List ℕ) (n : ℕ) → account_in accounts aba ≡ None → summed (at_number aba n) accounts ≡ 0
sum_absent [] aba n none = refl
sum_absent (a ∷ rest) aba n none = absent_step a rest aba n (bytes_eq aba a.aba) refl none (sum_absent rest aba n)

present_step : (a : Account) (rest : List Account) (aba : List ℕ) (n : ℕ) (same : Bool) → bytes_eq aba a.aba ≡ same
    → account_in rest a.aba ≡ None → is_none (account_in (a ∷ rest) aba) ≡ false
    → (is_none (account_in rest aba) ≡ false → summed (at_number aba n) rest ≡ n)
    → summed (at_number aba n) rest + (if same then n else 0) ≡ n
present_step a rest aba n true test alone known others =
    let none : account_in rest aba ≡ None = ap (account_in rest) (bytes_equal aba a.aba test) ∙ alone in
    let zero_rest : summed (at_number aba n) rest ≡ 0 = sum_absent rest aba n none in
    omega arith
present_step a rest aba n false test alone known others =
    let later : is_none (account_in rest aba) ≡ false = ap is_none (sym (passed_by a rest aba (swapped aba a.aba test))) ∙ known in
    let all_rest : summed (at_number aba n) rest ≡ n = others later in
    omega arith

-- one account has the number
pub sum_at_number : (accounts : List Account) → Apart accounts → (aba : List ℕ) (n : ℕ) → is_none (account_in accounts aba) ≡ false
    → summed (at_number aba n) accounts ≡ n
sum_at_number [] apart aba n known = absurd cc
sum_at_number (a ∷ rest) apart aba n known =
    present_step a rest aba n (bytes_eq aba a.aba) refl apart.0 known (sum_at_number rest apart.1 aba n)
