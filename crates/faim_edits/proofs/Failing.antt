-- The first edit that fails, found among outcomes.
use Rattle.std.proofs.Common.{◌≡◌, ℕ, Bool, true, false, cond, List, [], ◌∷◌, map, Option, Some, None, not, ◌&&◌, refl, sym, ap, ◌∙◌, subst}
use Rattle.std.specs.Prelude.{option_map}
use Rattle.std.specs.List.{find, list_all}
use Rattle.faim_base.specs.Refusals.{is_edit_number}
use Rattle.faim_message.specs.Spelling.{Content}
use Rattle.faim_message.specs.Edits.{Edit, edits, first_failed}

-- an outcome is an edit's number with whether its condition is met
pub first_outcome : (m : Content) (es : List Edit) → option_map (λ (r : ℕ × Bool). r.0) (find (λ (r : ℕ × Bool). not r.1) (map (λ e. (e.number, e.holds m)) es)) ≡ option_map (λ e. e.number) (find (λ e. not (e.holds m)) es)
first_outcome m [] = refl
first_outcome m (e ∷ es) = here (e.holds m) (first_outcome m es)
  where
    here : (b : Bool) → option_map (λ (r : ℕ × Bool). r.0) (find (λ (r : ℕ × Bool). not r.1) (map (λ w. (w.number, w.holds m)) es)) ≡ option_map (λ w. w.number) (find (λ w. not (w.holds m)) es)
        → option_map (λ (r : ℕ × Bool). r.0) (cond (not b) (Some (e.number, b)) (find (λ (r : ℕ × Bool). not r.1) (map (λ w. (w.number, w.holds m)) es))) ≡ option_map (λ w. w.number) (cond (not b) (Some e) (find (λ w. not (w.holds m)) es))
    here true more = more
    here false more = refl

-- what is found among edits passes a test that each of their numbers passes
pub found_passes : (q : ℕ → Bool) (m : Content) (es : List Edit) (n : ℕ) → list_all (λ e. q e.number) es ≡ true → option_map (λ e. e.number) (find (λ e. not (e.holds m)) es) ≡ Some n → q n ≡ true
found_passes q m [] n all found = absurd cc
found_passes q m (e ∷ es) n all found = here (e.holds m) (q e.number) refl all (λ rest more. found_passes q m es n rest more) found
  where
    here : (b c : Bool) → q e.number ≡ c → c && list_all (λ w. q w.number) es ≡ true
        → (list_all (λ w. q w.number) es ≡ true → option_map (λ w. w.number) (find (λ w. not (w.holds m)) es) ≡ Some n → q n ≡ true)
        → option_map (λ w. w.number) (cond (not b) (Some e) (find (λ w. not (w.holds m)) es)) ≡ Some n → q n ≡ true
    here b false is all more found = absurd (let wrong : false ≡ true = all in cc)
    here true true is all more found = more all found
    here false true is all more found = let same : e.number ≡ n = cc in let Q : ℕ → Type 0 = λ x. q x ≡ true in subst Q same is

-- first_failed gives numbers of edits alone
pub failed_is_edit : (env : ℕ) (m : Content) (n : ℕ) → first_failed env m ≡ Some n → is_edit_number n ≡ true
failed_is_edit env m n found = found_passes is_edit_number m (edits env) n refl found
