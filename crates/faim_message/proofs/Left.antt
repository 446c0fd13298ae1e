-- The numbers that are left, as tags are read.
use Rattle.std.proofs.Common.{◌≡◌, ℕ, Bool, true, false, cond, eqb, not, ◌||◌, List, [], ◌∷◌, ◌++◌, refl, sym, ap, ◌∙◌}
use Rattle.std.specs.Prelude.{◌==◌, filter}
use Rattle.std.proofs.lemmas.Bool.{eqb-true, eqb-false}
use Rattle.faim_tags.specs.Reading.{is_among}
use Rattle.faim_message.specs.Forms.{without}

-- where none is taken away all are left
pub without_none : (ns : List ℕ) → without [] ns ≡ ns
without_none [] = refl
without_none (n ∷ ns) = ap (λ (ms : List ℕ). n ∷ ms) (without_none ns)

among-push : (ns : List ℕ) (k m : ℕ) → is_among (ns ++ k ∷ []) m ≡ is_among ns m || (m == k)
among-push [] k m = one (eqb k m) refl (eqb m k) refl
  where
    one : (t : Bool) → eqb k m ≡ t → (u : Bool) → eqb m k ≡ u → t || false ≡ u
    one true e true f = refl
    one true e false f = absurd (eqb-false m k f (sym (eqb-true k m e)))
    one false e true f = absurd (eqb-false k m e (sym (eqb-true m k f)))
    one false e false f = refl
among-push (n ∷ ns) k m = ap (λ (t : Bool). (n == m) || t) (among-push ns k m) ∙ sym (assoc (n == m) (is_among ns m) (m == k))
  where
    assoc : (x y z : Bool) → (x || y) || z ≡ x || (y || z)
    assoc true y z = refl
    assoc false y z = refl

-- what is left without one number more
pub without-push : (ns : List ℕ) (k : ℕ) (all : List ℕ) → filter (λ n. not (n == k)) (without ns all) ≡ without (ns ++ k ∷ []) all
without-push ns k [] = refl
without-push ns k (m ∷ all) = by_test (is_among ns m) (m == k) refl (without-push ns k all) (among-push ns k m)
  where
    by_test : (t u : Bool) → (m == k) ≡ u → filter (λ n. not (n == k)) (without ns all) ≡ without (ns ++ k ∷ []) all → is_among (ns ++ k ∷ []) m ≡ t || u → filter (λ n. not (n == k)) (cond (not t) (m ∷ without ns all) (without ns all)) ≡ without (ns ++ k ∷ []) (m ∷ all)
    by_test true u is more e = rw e more
    by_test false true is more e = rw (e, is) more
    by_test false false is more e = rw (e, is) (ap (λ (ms : List ℕ). m ∷ ms) more)
