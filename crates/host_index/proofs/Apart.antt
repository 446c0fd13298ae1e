-- Positions of distinct endpoints don't stand in each other's way.
use Rattle.std.proofs.Common.{◌≡◌, ℕ, ◌&&◌, Bool, true, false, List, [], ◌∷◌, ◌++◌, map, refl, sym, ◌∙◌, ap}
use Rattle.std.specs.Prelude.{bytes_eq}
use Rattle.std.specs.List.{list_all, AllByRecursion, IsDistinct}
use Rattle.std.proofs.lemmas.Slice.Eq.{bytes_eq-Decides}
use Rattle.faim_base.specs.declared.ids.OutPos.{OutPos}
use Rattle.host_index.specs.Index.{Output, is_before, is_above, are_above}
use Rattle.host_index.proofs.Found.{one_other}

turned : (a b : List ℕ) (t : Bool) → bytes_eq a b ≡ false → bytes_eq b a ≡ t → bytes_eq b a ≡ false
turned a b true differ is =
    let same : a ≡ b = sym ((bytes_eq-Decides b a).0 is) in
    let again : bytes_eq a b ≡ true = (bytes_eq-Decides a b).1 same in
    absurd (cc (differ, again))
turned a b false differ is = is

others_same : (end : List ℕ × OutPos) (ends : List (List ℕ × OutPos)) (outputs : List Output) (place : ℕ) → AllByRecursion (λ y. bytes_eq end.0 y ≡ false) (map (λ x. x.0) ends)
    → list_all (λ x. is_above x.0 x.1 (outputs ++ record { dest = end.0; at = end.1; place = place } ∷ [])) ends ≡ list_all (λ x. is_above x.0 x.1 outputs) ends
others_same end [] outputs place apart = refl
others_same end (x ∷ ends) outputs place apart =
    let o : Output = record { dest = end.0; at = end.1; place = place } in
    let own : is_above x.0 x.1 (outputs ++ o ∷ []) ≡ is_above x.0 x.1 outputs = ap (λ (l : List Output). list_all (is_before x.1) l) (one_other x.0 outputs o (turned end.0 x.0 (bytes_eq x.0 end.0) apart.0 refl)) in
    ap (λ (b : Bool). b && list_all (λ y. is_above y.0 y.1 (outputs ++ o ∷ [])) ends) own
    ∙ ap (λ (b : Bool). is_above x.0 x.1 outputs && b) (others_same end ends outputs place apart.1)

pub each_above : (ends : List (List ℕ × OutPos)) (outputs : List Output) (place : ℕ) → IsDistinct bytes_eq (map (λ end. end.0) ends)
    → are_above place ends outputs ≡ list_all (λ end. is_above end.0 end.1 outputs) ends
unfolding IsDistinct
each_above [] outputs place distinct = refl
each_above (end ∷ ends) outputs place distinct =
    ap (λ (b : Bool). is_above end.0 end.1 outputs && b)
    (each_above ends (outputs ++ record { dest = end.0; at = end.1; place = place } ∷ []) place distinct.1 ∙ others_same end ends outputs place distinct.0)
