-- Over the endpoints of accounts: each serves an account, and each stands there once.
use Rattle.std.proofs.Common.{◌≡◌, ⊎_elim, refl, sym, ap, subst, ◌∙◌, ℕ, ◌||◌, Bool, true, false, not, cond, List, [], ◌∷◌, ◌++◌, append-nil, map, if◌then◌else◌}
use Rattle.std.specs.Prelude.{bytes_eq}
use Rattle.std.specs.List.{Contains, flat_map}
use Rattle.std.proofs.lemmas.Bool.{or_left, or_right}
use Rattle.host_ledger.specs.declared.config.Account.{Account}
use Rattle.host_ledger.specs.Accounts.{endpoints_of, has_endpoint, without}
use Rattle.host_ledger.proofs.EndpointLists.{bytes_eq_sym}
use Rattle.faim_model.proofs.Drawn.{from_filter}
use Rattle.faim_model.proofs.Imads.{bytes_equal, bytes_pass}
use Rattle.faim_model.proofs.Members.{first_in, first_or_later, later_in, none_in}

-- lists that are made for one endpoint, and that are empty for each other one
module _ {A : Type 0} (f : List ℕ → List A) (own : List ℕ) (others : (e : List ℕ) → bytes_eq own e ≡ false → f e ≡ []) where
  -- where another endpoint is left out they stay
  kept_step : (a d : List ℕ) (rest : List (List ℕ)) → bytes_eq own a ≡ false → flat_map f (without a rest) ≡ flat_map f rest → (same : Bool) → bytes_eq d a ≡ same
      → flat_map f (cond (not same) (d ∷ without a rest) (without a rest)) ≡ flat_map f (d ∷ rest)
  kept_step a d rest apart before true same =
      let none : f d ≡ [] = others d (ap (bytes_eq own) (bytes_equal d a same) ∙ apart) in
      before ∙ ap (λ (l : List A). l ++ flat_map f rest) (sym none)
  kept_step a d rest apart before false same = ap (λ (l : List A). f d ++ l) before

  kept : (a : List ℕ) (endpoints : List (List ℕ)) → bytes_eq own a ≡ false → flat_map f (without a endpoints) ≡ flat_map f endpoints
  kept a [] apart = refl
  kept a (d ∷ rest) apart = kept_step a d rest apart (kept a rest apart) (bytes_eq d a) refl

  -- and where their own is left out, nothing is left
  none_step : (d : List ℕ) (rest : List (List ℕ)) → flat_map f (without own rest) ≡ [] → (same : Bool) → bytes_eq d own ≡ same
      → flat_map f (cond (not same) (d ∷ without own rest) (without own rest)) ≡ []
  none_step d rest before true same = before
  none_step d rest before false same =
      let none : f d ≡ [] = others d (bytes_eq_sym own d ∙ same) in ap (λ (l : List A). l ++ flat_map f (without own rest)) none ∙ before

  none_left : (endpoints : List (List ℕ)) → flat_map f (without own endpoints) ≡ []
  none_left [] = refl
  none_left (d ∷ rest) = none_step d rest (none_left rest) (bytes_eq d own) refl

  once_step : (d : List ℕ) (rest : List (List ℕ)) (has : Bool) → flat_map f rest ≡ (if has then f own else []) → (same : Bool) → bytes_eq d own ≡ same
      → flat_map f (d ∷ without d rest) ≡ (if same || has then f own else [])
  once_step d rest has before true same =
      let P : List ℕ → Type 0 = λ x. flat_map f (x ∷ without x rest) ≡ f own in
      subst P (sym (bytes_equal d own same)) (ap (λ (l : List A). f own ++ l) (none_left rest) ∙ append-nil (f own))
  once_step d rest has before false differs =
      let apart : bytes_eq own d ≡ false = bytes_eq_sym own d ∙ differs in
      ap (λ (l : List A). l ++ flat_map f (without d rest)) (others d apart) ∙ kept d rest apart ∙ before

  -- the endpoints of accounts have it once, where an account is served there
  pub once : (accounts : List Account) → flat_map f (endpoints_of accounts) ≡ (if has_endpoint accounts own then f own else [])
  once [] = refl
  once (a ∷ rest) = once_step a.endpoint (endpoints_of rest) (has_endpoint rest own) (once rest) (bytes_eq a.endpoint own) refl

-- each of the endpoints serves an account
pub served : (accounts : List Account) (e : List ℕ) → Contains (endpoints_of accounts) e → has_endpoint accounts e ≡ true
served [] e there = absurd (none_in e there)
served (a ∷ rest) e there =
    ⊎_elim (λ (own : e ≡ a.endpoint). or_left (bytes_eq a.endpoint e) (has_endpoint rest e) (bytes_pass a.endpoint e (sym own)))
    (λ (later : Contains (without a.endpoint (endpoints_of rest)) e). or_right (bytes_eq a.endpoint e) (has_endpoint rest e)
    (served rest e (from_filter (λ f. not (bytes_eq f a.endpoint)) (endpoints_of rest) e later)))
    (first_or_later a.endpoint e (without a.endpoint (endpoints_of rest)) there)

-- lists of one are a list
pub one_each : {A B : Type 0} (f : A → List B) (g : A → B) (xs : List A) → ((x : A) → Contains xs x → f x ≡ g x ∷ []) → flat_map f xs ≡ map g xs
one_each f g [] one = refl
one_each f g (x ∷ xs) one =
    (λ k. one x (first_in x xs) k ++ one_each f g xs (λ y there. one y (later_in x y xs there)) k)
