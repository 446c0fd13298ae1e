-- The edits that a message fails, one by one.
use Rattle.std.proofs.Common.{◌≡◌, ℕ, ◌≤◌, Bool, true, false, cond, eqb, not, ◌&&◌, ◌||◌, List, [], ◌∷◌, map, Option, Some, None, refl, sym, ap, ◌∙◌, subst, inl, inr, arith}
use Rattle.std.specs.Prelude.{◌==◌, ◌⊎◌, nat_le, filter, bytes_eq, option_map, slice_get}
use Rattle.std.specs.List.{find, list_any}
use Rattle.std.specs.Option.{option_map_or}
use Rattle.std.proofs.lemmas.Bool.{eqb-true}
use Rattle.faim_tags.specs.Reading.{is_among}
use Rattle.faim_message.specs.Spelling.{Content}
use Rattle.faim_message.specs.Edits.{Edit, Permitted, permitted_kinds, edits, first_failed, code, kind}
use Rattle.faim_edits.specs.Failures.{IsEnv, Fails, failed_edits}
use Rattle.faim_edits.proofs.Failing.{found_passes}
use Rattle.faim_edits.proofs.Witnesses.{EachFails, rows, wanted, each_test, each_production, none_fails_test, none_fails_production}

within : (n : ℕ) → nat_le 101 n && nat_le n 117 ≡ true → (101 ≤ n) × (n ≤ 117)
within n e = (grind arith, grind arith)

pub in_range : (env n : ℕ) (m : Content) → first_failed env m ≡ Some n → (101 ≤ n) × (n ≤ 117)
in_range env n m found = within n (found_passes (λ x. nat_le 101 x && nat_le x 117) m (edits env) n refl found)

first_of : (m : Content) (es : List Edit) → option_map (λ e. e.number) (find (λ e. not (e.holds m)) es) ≡ slice_get (map (λ e. e.number) (filter (λ e. not (e.holds m)) es)) 0
first_of m [] = refl
first_of m (e ∷ es) = here (e.holds m) (first_of m es)
  where
    here : (b : Bool) → option_map (λ w. w.number) (find (λ w. not (w.holds m)) es) ≡ slice_get (map (λ w. w.number) (filter (λ w. not (w.holds m)) es)) 0
        → option_map (λ w. w.number) (cond (not b) (Some e) (find (λ w. not (w.holds m)) es)) ≡ slice_get (map (λ w. w.number) (cond (not b) (e ∷ filter (λ w. not (w.holds m)) es) (filter (λ w. not (w.holds m)) es))) 0
    here true more = more
    here false more = refl

-- the first that fails is the first of those that fail
pub first_failed_is : (env : ℕ) (m : Content) → first_failed env m ≡ slice_get (failed_edits env m) 0
first_failed_is env m = first_of m (edits env)

pub none_fails : (env : ℕ) → IsEnv env → Fails env []
none_fails env (inl e) = let P : ℕ → Type 0 = λ x. Fails x [] in subst P (sym e) none_fails_test
none_fails env (inr e) = let P : ℕ → Type 0 = λ x. Fails x [] in subst P (sym e) none_fails_production

fails_at : (env : ℕ) (ns : List ℕ) (n : ℕ) → EachFails env ns → is_among ns n ≡ true → Fails env (wanted n)
fails_at env [] n each e = absurd (let wrong : false ≡ true = e in cc)
fails_at env (k ∷ ns) n each e = here (eqb k n) refl e (λ more. fails_at env ns n each.1 more)
  where
    here : (b : Bool) → eqb k n ≡ b → b || is_among ns n ≡ true → (is_among ns n ≡ true → Fails env (wanted n)) → Fails env (wanted n)
    here true is e rest = let P : ℕ → Type 0 = λ x. Fails env (wanted x) in subst P (eqb-true k n is) each.0
    here false is e rest = rest e

among_rows : (n : ℕ) → 101 ≤ n → n ≤ 117 → is_among rows n ≡ true
among_rows n low high = grind arith

-- each number's edit fails alone, but for E104
pub fails_alone : (env n : ℕ) → IsEnv env → 101 ≤ n → n ≤ 117 → Fails env (wanted n)
fails_alone env n (inl e) low high = let P : ℕ → Type 0 = λ x. Fails x (wanted n) in subst P (sym e) (fails_at 84 rows n each_test (among_rows n low high))
fails_alone env n (inr e) low high = let P : ℕ → Type 0 = λ x. Fails x (wanted n) in subst P (sym e) (fails_at 80 rows n each_production (among_rows n low high))

off : (b c : Bool) → (b && false) || c ≡ c
off true c = refl
off false c = refl

on : (b : Bool) → b && true ≡ b
on true = refl
on false = refl

-- a number is among those that fail exactly where its row fails
failed_at : (m : Content) (n : ℕ) (es : List Edit) → is_among (map (λ e. e.number) (filter (λ e. not (e.holds m)) es)) n ≡ list_any (λ e. (e.number == n) && not (e.holds m)) es
failed_at m n [] = refl
failed_at m n (e ∷ es) = here (e.holds m) (failed_at m n es)
  where
    here : (b : Bool) → is_among (map (λ w. w.number) (filter (λ w. not (w.holds m)) es)) n ≡ list_any (λ w. (w.number == n) && not (w.holds m)) es
        → list_any (λ k. eqb k n) (map (λ w. w.number) (cond (not b) (e ∷ filter (λ w. not (w.holds m)) es) (filter (λ w. not (w.holds m)) es))) ≡ (eqb e.number n && not b) || list_any (λ w. (w.number == n) && not (w.holds m)) es
    here true more = more ∙ sym (off (eqb e.number n) _)
    here false more = ap (λ x. eqb e.number n || x) more ∙ sym (ap (λ x. x || list_any (λ w. (w.number == n) && not (w.holds m)) es) (on (eqb e.number n)))

no_kinds : (x : List ℕ) (ps : List Permitted) → list_any (λ c. bytes_eq c x) (map (λ p. p.code) ps) ≡ false → option_map_or (λ p. p.kinds) (find (λ p. bytes_eq p.code x) ps) [] ≡ []
no_kinds x [] e = refl
no_kinds x (p ∷ ps) e = here (bytes_eq p.code x) e (no_kinds x ps)
  where
    here : (b : Bool) → b || list_any (λ c. bytes_eq c x) (map (λ w. w.code) ps) ≡ false
        → (list_any (λ c. bytes_eq c x) (map (λ w. w.code) ps) ≡ false → option_map_or (λ w. w.kinds) (find (λ w. bytes_eq w.code x) ps) [] ≡ [])
        → option_map_or (λ w. w.kinds) (cond b (Some p) (find (λ w. bytes_eq w.code x) ps)) [] ≡ []
    here true e more = absurd (let wrong : true ≡ false = e in cc)
    here false e more = more e

known : (b : Bool) → not b || false ≡ true → b ≡ false
known true e = absurd (let wrong : false ≡ true = e in cc)
known false e = refl

-- a code that isn't one of the ten permits nothing
pub unknown_permits_none : (env : ℕ) (m : Content) → is_among (failed_edits env m) 104 ≡ true → is_among (failed_edits env m) 105 ≡ true
unknown_permits_none env m e =
    let fails : list_any (λ c. bytes_eq c (code m)) (map (λ p. p.code) permitted_kinds) ≡ false = known _ (sym (failed_at m 104 (edits env)) ∙ e) in
    let Q : List ℕ → Type 0 = λ kinds. not (is_among kinds (kind m)) || false ≡ true in
    failed_at m 105 (edits env) ∙ subst Q (sym (no_kinds (code m) permitted_kinds fails)) refl
