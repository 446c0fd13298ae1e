-- The outputs of an endpoint stay in order, and a new one is found from its position on.
use Rattle.std.proofs.Common.{◌≡◌, ℕ, ◌==◌, ◌&&◌, ◌||◌, Bool, true, false, List, [], ◌∷◌, ◌++◌, filter, take, refl, sym, ◌∙◌, ap, subst, arith, append-nil, append_assoc}
use Rattle.std.specs.Prelude.{bytes_eq, nat_lt, nat_le}
use Rattle.std.specs.List.{list_all}
use Rattle.std.proofs.lemmas.Bool.Decides.{nat_tests}
use Rattle.std.proofs.lemmas.Slice.Eq.{bytes_eq-Decides}
use Rattle.std.proofs.lemmas.List.Elements.{filter-append}
use Rattle.faim_base.specs.declared.ids.OutPos.{OutPos}
use Rattle.host_index.specs.Index.{Output, outputs_to, outputs_at, is_from, is_before, is_above, are_above, Rises, places_of, retrieved}
use Rattle.host_index.proofs.Found.{passed, one_more, one_other}
use Rattle.host_index.proofs.InOrder.{both, all_push}
use Rattle.host_index.proofs.Answering.{own_output, all_before}

rises_on : (xs : List Output) (o : Output) → Rises xs → list_all (is_before o.at) xs ≡ true → Rises (xs ++ o ∷ [])
rises_on [] o rises all = (refl, tt)
rises_on (x ∷ xs) o rises all =
    let h = both (is_before o.at x) (list_all (is_before o.at) xs) all in
    (all_push (λ (later : Output). is_before later.at x) xs o rises.0 h.0, rises_on xs o rises.1 h.1)

one_rises : (outputs : List Output) (o : Output) (e : List ℕ) → is_above o.dest o.at outputs ≡ true → Rises (outputs_to e outputs) → (b : Bool) → bytes_eq e o.dest ≡ b → Rises (outputs_to e (outputs ++ o ∷ []))
one_rises outputs o e above rises true t =
    let same : e ≡ o.dest = (bytes_eq-Decides e o.dest).0 t in
    subst Rises (sym (one_more e outputs o t)) (rises_on (outputs_to e outputs) o rises (ap (λ (d : List ℕ). is_above d o.at outputs) same ∙ above))
one_rises outputs o e above rises false f = subst Rises (sym (one_other e outputs o f)) rises

pub in_order_on : (outputs : List Output) (ends : List (List ℕ × OutPos)) (place : ℕ) (e : List ℕ) → are_above place ends outputs ≡ true → Rises (outputs_to e outputs) → Rises (outputs_to e (outputs ++ outputs_at place ends))
in_order_on outputs [] place e above rises = subst (λ (l : List Output). Rises (outputs_to e l)) (sym (append-nil outputs)) rises
in_order_on outputs (end ∷ ends) place e above rises =
    let o : Output = record { dest = end.0; at = end.1; place = place } in
    let h = both (is_above end.0 end.1 outputs) (are_above place ends (outputs ++ o ∷ [])) above in
    subst (λ (l : List Output). Rises (outputs_to e l)) (append_assoc outputs (o ∷ []) (outputs_at place ends))
    (in_order_on (outputs ++ o ∷ []) ends place e h.1 (one_rises outputs o e h.0 rises (bytes_eq e end.0) refl))

own_position : (a b : ℕ) → nat_lt a a || ((a == a) && nat_le b b) ≡ true
own_position a b = grind (arith, nat_tests)

pub found_again : (outputs : List Output) (e : List ℕ) (p : OutPos) (place : ℕ) → is_above e p outputs ≡ true → places_of (retrieved e p (outputs ++ outputs_at place ((e, p) ∷ []))) ≡ place ∷ []
found_again outputs e p place above =
    let o : Output = record { dest = e; at = p; place = place } in
    ap (λ (l : List Output). places_of (take 64 l))
    (ap (filter (is_from p)) (own_output outputs e p place) ∙ filter-append (is_from p) (outputs_to e outputs) (o ∷ [])
    ∙ ap (λ (l : List Output). l ++ filter (is_from p) (o ∷ [])) (all_before p (outputs_to e outputs) above)
    ∙ passed (is_from p) o [] (own_position p.date p.seq))
