-- The endpoints of accounts: each stands there once, and each is one that serves an account.
use Rattle.std.proofs.Common.{◌≡◌, refl, sym, ◌∙◌, ap, subst, ℕ, ◌||◌, Bool, true, false, not, cond, List, [], ◌∷◌, filter, if◌then◌else◌}
use Rattle.std.specs.Prelude.{bytes_eq}
use Rattle.std.specs.List.{AllByRecursion, IsDistinct, list_any}
use Rattle.host_ledger.specs.declared.config.Account.{Account}
use Rattle.host_ledger.specs.Accounts.{endpoints_of, has_endpoint, without}
use Rattle.host_ledger.proofs.EndpointLists.{bytes_eq_sym}
use Rattle.host_index.proofs.Found.{left_out, passed}
use Rattle.faim_model.proofs.Imads.{bytes_equal, bytes_pass}

-- the endpoints of a list that equal one
abbrev pub only : List ℕ → List (List ℕ) → List (List ℕ)
only e endpoints = filter (λ f. bytes_eq e f) endpoints

-- a first endpoint that equals another is left out with it, and one that doesn't is kept
without_equal : (a d : List ℕ) (rest : List (List ℕ)) → bytes_eq d a ≡ true → without a (d ∷ rest) ≡ without a rest
without_equal a d rest same = left_out (λ f. not (bytes_eq f a)) d rest (ap not same)

without_other : (a d : List ℕ) (rest : List (List ℕ)) → bytes_eq d a ≡ false → without a (d ∷ rest) ≡ d ∷ without a rest
without_other a d rest apart = passed (λ f. not (bytes_eq f a)) d rest (ap not apart)

-- where another endpoint is left out, those that equal this one stay
kept_step : (e a d : List ℕ) (rest : List (List ℕ)) → bytes_eq e a ≡ false → only e (without a rest) ≡ only e rest
    → (same : Bool) → bytes_eq d a ≡ same → only e (without a (d ∷ rest)) ≡ only e (d ∷ rest)
kept_step e a d rest apart before true same =
    let other : bytes_eq e d ≡ false = ap (λ (x : List ℕ). bytes_eq e x) (bytes_equal d a same) ∙ apart in
    ap (only e) (without_equal a d rest same) ∙ before ∙ sym (left_out (λ f. bytes_eq e f) d rest other)
kept_step e a d rest apart before false differs =
    ap (only e) (without_other a d rest differs) ∙ ap (λ (l : List (List ℕ)). cond (bytes_eq e d) (d ∷ l) l) before

only_kept : (e a : List ℕ) (endpoints : List (List ℕ)) → bytes_eq e a ≡ false → only e (without a endpoints) ≡ only e endpoints
only_kept e a [] apart = refl
only_kept e a (d ∷ rest) apart = kept_step e a d rest apart (only_kept e a rest apart) (bytes_eq d a) refl

-- where this one is left out, none is left that equals it
none_step : (e d : List ℕ) (rest : List (List ℕ)) → only e (without e rest) ≡ [] → (same : Bool) → bytes_eq d e ≡ same → only e (without e (d ∷ rest)) ≡ []
none_step e d rest before true same = ap (only e) (without_equal e d rest same) ∙ before
none_step e d rest before false differs =
    ap (only e) (without_other e d rest differs) ∙ left_out (λ f. bytes_eq e f) d (without e rest) (bytes_eq_sym e d ∙ differs) ∙ before

none_left : (e : List ℕ) (endpoints : List (List ℕ)) → only e (without e endpoints) ≡ []
none_left e [] = refl
none_left e (d ∷ rest) = none_step e d rest (none_left e rest) (bytes_eq d e) refl

once_step : (e d : List ℕ) (rest : List (List ℕ)) (has : Bool) → only e rest ≡ (if has then e ∷ [] else []) → (same : Bool) → bytes_eq d e ≡ same
    → only e (d ∷ without d rest) ≡ (if same || has then e ∷ [] else [])
once_step e d rest has before true same =
    let P : List ℕ → Type 0 = λ x. only e (x ∷ without x rest) ≡ e ∷ [] in
    subst P (sym (bytes_equal d e same))
    (passed (λ f. bytes_eq e f) e (without e rest) (bytes_pass e e refl) ∙ ap (λ (l : List (List ℕ)). e ∷ l) (none_left e rest))
once_step e d rest has before false differs =
    let apart : bytes_eq e d ≡ false = bytes_eq_sym e d ∙ differs in
    left_out (λ f. bytes_eq e f) d (without d rest) apart ∙ only_kept e d rest apart ∙ before

-- the endpoints of accounts have an endpoint once, where it serves one of them, and else not
pub only_once : (accounts : List Account) (e : List ℕ) → only e (endpoints_of accounts) ≡ (if has_endpoint accounts e then e ∷ [] else [])
only_once [] e = refl
only_once (a ∷ rest) e =
    once_step e a.endpoint (endpoints_of rest) (has_endpoint rest e) (only_once rest e) (bytes_eq a.endpoint e) refl

-- those that are left are apart from the one that is left out, and apart from each other
apart_step : (a d : List ℕ) (rest : List (List ℕ)) → AllByRecursion (λ f. bytes_eq a f ≡ false) (without a rest)
    → (same : Bool) → bytes_eq d a ≡ same → AllByRecursion (λ f. bytes_eq a f ≡ false) (without a (d ∷ rest))
apart_step a d rest before true same = subst (λ (l : List (List ℕ)). AllByRecursion (λ f. bytes_eq a f ≡ false) l) (sym (without_equal a d rest same)) before
apart_step a d rest before false differs =
    subst (λ (l : List (List ℕ)). AllByRecursion (λ f. bytes_eq a f ≡ false) l) (sym (without_other a d rest differs)) (bytes_eq_sym a d ∙ differs, before)

left_apart : (a : List ℕ) (endpoints : List (List ℕ)) → AllByRecursion (λ f. bytes_eq a f ≡ false) (without a endpoints)
left_apart a [] = tt
left_apart a (d ∷ rest) = apart_step a d rest (left_apart a rest) (bytes_eq d a) refl

-- what holds of each endpoint holds of each that is left
module _ (P : List ℕ → Type 0) (a : List ℕ) where
  left_step : (d : List ℕ) (rest : List (List ℕ)) → P d → AllByRecursion P (without a rest) → (same : Bool) → bytes_eq d a ≡ same → AllByRecursion P (without a (d ∷ rest))
  left_step d rest own others true same = subst (λ (l : List (List ℕ)). AllByRecursion P l) (sym (without_equal a d rest same)) others
  left_step d rest own others false differs = subst (λ (l : List (List ℕ)). AllByRecursion P l) (sym (without_other a d rest differs)) (own, others)

  all_left : (endpoints : List (List ℕ)) → AllByRecursion P endpoints → AllByRecursion P (without a endpoints)
  all_left [] all = tt
  all_left (d ∷ rest) all = left_step d rest all.0 (all_left rest all.1) (bytes_eq d a) refl

distinct_step : (a d : List ℕ) (rest : List (List ℕ)) → AllByRecursion (λ f. bytes_eq d f ≡ false) rest → IsDistinct bytes_eq (without a rest)
    → (same : Bool) → bytes_eq d a ≡ same → IsDistinct bytes_eq (without a (d ∷ rest))
unfolding IsDistinct
distinct_step a d rest apart before true same = subst (λ (l : List (List ℕ)). IsDistinct bytes_eq l) (sym (without_equal a d rest same)) before
distinct_step a d rest apart before false differs =
    subst (λ (l : List (List ℕ)). IsDistinct bytes_eq l) (sym (without_other a d rest differs)) (all_left (λ f. bytes_eq d f ≡ false) a rest apart, before)

left_distinct : (a : List ℕ) (endpoints : List (List ℕ)) → IsDistinct bytes_eq endpoints → IsDistinct bytes_eq (without a endpoints)
unfolding IsDistinct
left_distinct a [] distinct = tt
left_distinct a (d ∷ rest) distinct = distinct_step a d rest distinct.0 (left_distinct a rest distinct.1) (bytes_eq d a) refl

-- the endpoints of accounts are distinct
pub endpoints_distinct : (accounts : List Account) → IsDistinct bytes_eq (endpoints_of accounts)
unfolding IsDistinct
endpoints_distinct [] = tt
endpoints_distinct (a ∷ rest) = (left_apart a.endpoint (endpoints_of rest), left_distinct a.endpoint (endpoints_of rest) (endpoints_distinct rest))

-- an endpoint of some of the accounts is one of them all
has_more : (a : Account) (rest : List Account) (endpoints : List (List ℕ)) → AllByRecursion (λ e. has_endpoint rest e ≡ true) endpoints
    → AllByRecursion (λ e. has_endpoint (a ∷ rest) e ≡ true) endpoints
has_more a rest [] all = tt
has_more a rest (d ∷ others) all = (either (bytes_eq a.endpoint d) (has_endpoint rest d) all.0, has_more a rest others all.1)
  where
    either : (first later : Bool) → later ≡ true → first || later ≡ true
    either true later has = refl
    either false later has = has

-- each of the endpoints serves an account
pub each_serves : (accounts : List Account) → AllByRecursion (λ e. has_endpoint accounts e ≡ true) (endpoints_of accounts)
each_serves [] = tt
each_serves (a ∷ rest) = (
  ap (λ (b : Bool). b || has_endpoint rest a.endpoint) (bytes_pass a.endpoint a.endpoint refl),
  all_left (λ e. has_endpoint (a ∷ rest) e ≡ true) a.endpoint (endpoints_of rest) (has_more a rest (endpoints_of rest) (each_serves rest)),
)

-- the endpoints that equal one are some where any of them does
abbrev some : List (List ℕ) → Bool
some [] = false
some (e ∷ endpoints) = true

some_if : (has : Bool) (e : List ℕ) → some (if has then e ∷ [] else []) ≡ has
some_if true e = refl
some_if false e = refl

some_step : (same : Bool) (d : List ℕ) (rest : List (List ℕ)) → same || some rest ≡ some (cond same (d ∷ rest) rest)
some_step true d rest = refl
some_step false d rest = refl

some_among : (e : List ℕ) (endpoints : List (List ℕ)) → list_any (λ f. bytes_eq f e) endpoints ≡ some (only e endpoints)
some_among e [] = refl
some_among e (d ∷ rest) =
    ap (λ (b : Bool). bytes_eq d e || b) (some_among e rest)
    ∙ ap (λ (b : Bool). b || some (only e rest)) (bytes_eq_sym d e)
    ∙ some_step (bytes_eq e d) d (only e rest)

-- the endpoints of accounts are those that some account is served at
pub among : (accounts : List Account) (e : List ℕ) → list_any (λ f. bytes_eq f e) (endpoints_of accounts) ≡ has_endpoint accounts e
among accounts e = some_among e (endpoints_of accounts) ∙ ap some (only_once accounts e) ∙ some_if (has_endpoint accounts e) e
