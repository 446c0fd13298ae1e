-- What searches and counts answer after an addition, and what a retrieval gives.
use Rattle.std.proofs.Common.{◌≡◌, ◌≢◌, ◌⊎◌, ⊎_elim, inl, inr, ℕ, suc, zero, ◌+◌, ◌<◌, ◌≤◌, ◌==◌, ◌&&◌, Bool, true, false, cond, not, List, [], ◌∷◌, ◌++◌, length, filter, take, get_or, Option, Some, None, refl, sym, ◌∙◌, ap, subst, arith, append-nil, length-append}
use Rattle.std.specs.Prelude.{bytes_eq}
use Rattle.std.specs.List.{Contains, find, list_all}
use Rattle.std.specs.Option.{option_map, option_or}
use Rattle.std.proofs.lemmas.Bool.{and_from, eq-eqb, eqb-true}
use Rattle.std.proofs.lemmas.Slice.Eq.{bytes_eq-Decides}
use Rattle.std.proofs.lemmas.List.{take-append-le, take_all, length-take}
use Rattle.std.proofs.lemmas.List.Elements.{filter-append, Contains-append_cases, Contains-append_right}
use Rattle.std.proofs.lemmas.List.Folds.{find-append}
use Rattle.faim_base.specs.declared.ids.Imad.{Imad}
use Rattle.faim_base.specs.declared.ids.OutPos.{OutPos}
use Rattle.host_index.specs.Index.{Posted, Output, same_imad, place_of, outputs_to, is_under, is_from, is_before, is_above, outputs_at, retrieved, retrieval_limit}
use Rattle.host_index.proofs.Found.{passed, left_out, one_more}
use Rattle.host_index.proofs.InOrder.{both}

-- identifiers pass the test exactly where they are equal
itself : (imad : Imad) → same_imad imad imad ≡ true
itself imad =
    and_from _ _ (eq-eqb imad.date imad.date refl) (and_from _ _ ((bytes_eq-Decides imad.source imad.source).1 refl) (eq-eqb imad.seq imad.seq refl))

equal : (a b : Imad) → same_imad a b ≡ true → a ≡ b
equal a b same =
    let h = both (a.date == b.date) (bytes_eq a.source b.source && (a.seq == b.seq)) same in
    let k = both (bytes_eq a.source b.source) (a.seq == b.seq) h.1 in
    let date : a.date ≡ b.date = eqb-true a.date b.date h.0 in
    let source : a.source ≡ b.source = (bytes_eq-Decides a.source b.source).0 k.0 in
    let seq : a.seq ≡ b.seq = eqb-true a.seq b.seq k.1 in
    λ i. record { date = date i; source = source i; seq = seq i }

-- the place of one identifier that is posted
only_place : (imad : Imad) (p : Posted) (b : Bool) → same_imad imad p.imad ≡ b → find (λ (q : Posted). same_imad imad q.imad) (p ∷ []) ≡ (cond b (Some p) None)
only_place imad p b is = ap (λ (t : Bool). cond t (Some p) None) is

searched_on : (imad : Imad) (ps : List Posted) (p : Posted) (o : Option Posted) → find (λ (q : Posted). same_imad imad q.imad) (p ∷ []) ≡ o
    → place_of imad (ps ++ p ∷ []) ≡ option_map (λ (q : Posted). q.place) (option_or (find (λ (q : Posted). same_imad imad q.imad) ps) o)
searched_on imad ps p o is =
    ap (option_map (λ (q : Posted). q.place)) (find-append (λ (q : Posted). same_imad imad q.imad) ps (p ∷ [])
    ∙ ap (option_or (find (λ (q : Posted). same_imad imad q.imad) ps)) is)

nothing_else : (o p : Option Posted) → option_map (λ (q : Posted). q.place) o ≡ None → option_or o p ≡ p
nothing_else None p none = refl
nothing_else (Some q) p none = absurd cc

or_nothing : (o : Option Posted) → option_or o None ≡ o
or_nothing None = refl
or_nothing (Some q) = refl

pub own_place : (imad : Imad) (ps : List Posted) (place : ℕ) → place_of imad ps ≡ None → place_of imad (ps ++ record { imad = imad; place = place } ∷ []) ≡ Some place
own_place imad ps place none =
    let p : Posted = record { imad = imad; place = place } in
    searched_on imad ps p (Some p) (only_place imad p true (itself imad))
    ∙ ap (option_map (λ (q : Posted). q.place)) (nothing_else (find (λ (q : Posted). same_imad imad q.imad) ps) (Some p) none)

other_place_at : (other imad : Imad) (ps : List Posted) (place : ℕ) → other ≢ imad → (b : Bool) → same_imad other imad ≡ b → place_of other (ps ++ record { imad = imad; place = place } ∷ []) ≡ place_of other ps
other_place_at other imad ps place apart true t = absurd (apart (equal other imad t))
other_place_at other imad ps place apart false f =
    let p : Posted = record { imad = imad; place = place } in
    searched_on other ps p None (only_place other p false f)
    ∙ ap (option_map (λ (q : Posted). q.place)) (or_nothing (find (λ (q : Posted). same_imad other q.imad) ps))

pub other_place : (other imad : Imad) (ps : List Posted) (place : ℕ) → other ≢ imad → place_of other (ps ++ record { imad = imad; place = place } ∷ []) ≡ place_of other ps
other_place other imad ps place apart = other_place_at other imad ps place apart (same_imad other imad) refl

-- outputs to an endpoint, and to others
pub own_output : (outputs : List Output) (e : List ℕ) (at : OutPos) (place : ℕ) → outputs_to e (outputs ++ outputs_at place ((e, at) ∷ [])) ≡ outputs_to e outputs ++ record { dest = e; at = at; place = place } ∷ []
own_output outputs e at place = one_more e outputs (record { dest = e; at = at; place = place }) ((bytes_eq-Decides e e).1 refl)

first_in : {A : Type 0} (x : A) (xs : List A) → Contains (x ∷ xs) x
first_in x xs = (0, omega arith, refl)

later_in : {A : Type 0} (x y : A) (xs : List A) → Contains xs y → Contains (x ∷ xs) y
later_in x y xs there = Contains-append_right (x ∷ []) xs y there

none_to_step : (e : List ℕ) (end : List ℕ × OutPos) (ends : List (List ℕ × OutPos)) (place : ℕ) → ((at : OutPos) → Contains (end ∷ ends) (e, at) → ⊥) → outputs_to e (outputs_at place ends) ≡ []
    → (b : Bool) → bytes_eq e end.0 ≡ b → outputs_to e (outputs_at place (end ∷ ends)) ≡ []
none_to_step e end ends place none rest true t =
    let same : e ≡ end.0 = (bytes_eq-Decides e end.0).0 t in
    absurd (none end.1 (subst (λ (d : List ℕ). Contains (end ∷ ends) (d, end.1)) (sym same) (first_in end ends)))
none_to_step e end ends place none rest false f =
    left_out (λ (o : Output). bytes_eq e o.dest) (record { dest = end.0; at = end.1; place = place }) (outputs_at place ends) f ∙ rest

none_to : (e : List ℕ) (ends : List (List ℕ × OutPos)) (place : ℕ) → ((at : OutPos) → Contains ends (e, at) → ⊥) → outputs_to e (outputs_at place ends) ≡ []
none_to e [] place none = refl
none_to e (end ∷ ends) place none = none_to_step e end ends place none (none_to e ends place (λ at there. none at (later_in end (e, at) ends there))) (bytes_eq e end.0) refl

pub others_outputs : (outputs : List Output) (e : List ℕ) (ends : List (List ℕ × OutPos)) (place : ℕ) → ((at : OutPos) → Contains ends (e, at) → ⊥) → outputs_to e (outputs ++ outputs_at place ends) ≡ outputs_to e outputs
others_outputs outputs e ends place none =
    filter-append (λ (o : Output). bytes_eq e o.dest) outputs (outputs_at place ends)
    ∙ ap (λ (l : List Output). outputs_to e outputs ++ l) (none_to e ends place none)
    ∙ append-nil (outputs_to e outputs)

-- counts under a date
counted_on : (outputs : List Output) (e : List ℕ) (at : OutPos) (place date : ℕ) → filter (is_under date) (outputs_to e (outputs ++ outputs_at place ((e, at) ∷ [])))
    ≡ filter (is_under date) (outputs_to e outputs) ++ filter (is_under date) (record { dest = e; at = at; place = place } ∷ [])
counted_on outputs e at place date =
    ap (filter (is_under date)) (own_output outputs e at place)
    ∙ filter-append (is_under date) (outputs_to e outputs) (record { dest = e; at = at; place = place } ∷ [])

pub own_count : (outputs : List Output) (e : List ℕ) (at : OutPos) (place : ℕ)
    → length (filter (is_under at.date) (outputs_to e (outputs ++ outputs_at place ((e, at) ∷ [])))) ≡ length (filter (is_under at.date) (outputs_to e outputs)) + 1
own_count outputs e at place =
    let o : Output = record { dest = e; at = at; place = place } in
    ap length (counted_on outputs e at place at.date ∙ ap (λ (l : List Output). filter (is_under at.date) (outputs_to e outputs) ++ l) (passed (is_under at.date) o [] (eq-eqb at.date at.date refl)))
    ∙ length-append (filter (is_under at.date) (outputs_to e outputs)) (o ∷ [])

other_count_at : (outputs : List Output) (e : List ℕ) (at : OutPos) (place date : ℕ) → date ≢ at.date → (b : Bool) → (at.date == date) ≡ b
    → length (filter (is_under date) (outputs_to e (outputs ++ outputs_at place ((e, at) ∷ [])))) ≡ length (filter (is_under date) (outputs_to e outputs))
other_count_at outputs e at place date apart true t = absurd (apart (sym (eqb-true at.date date t)))
other_count_at outputs e at place date apart false f =
    let o : Output = record { dest = e; at = at; place = place } in
    ap length (counted_on outputs e at place date ∙ ap (λ (l : List Output). filter (is_under date) (outputs_to e outputs) ++ l) (left_out (is_under date) o [] f)
    ∙ append-nil (filter (is_under date) (outputs_to e outputs)))

pub other_count : (outputs : List Output) (e : List ℕ) (at : OutPos) (place date : ℕ) → date ≢ at.date
    → length (filter (is_under date) (outputs_to e (outputs ++ outputs_at place ((e, at) ∷ [])))) ≡ length (filter (is_under date) (outputs_to e outputs))
other_count outputs e at place date apart = other_count_at outputs e at place date apart (at.date == date) refl

-- members of a filter are the members that pass, and members of a front are members
none_in : {A : Type 0} (y : A) → Contains [] y → ⊥
none_in y there = let below : there.0 < 0 = there.1 in absurd (omega arith)

only_one : {A : Type 0} (x y : A) → Contains (x ∷ []) y → y ≡ x
only_one x y there =
    let at_front : there.0 ≡ 0 = let below : there.0 < 1 = there.1 in omega arith in
    sym (subst (λ (k : ℕ). get_or (x ∷ []) k y ≡ y) at_front there.2)

first_or_later : {A : Type 0} (x y : A) (xs : List A) → Contains (x ∷ xs) y → (y ≡ x) ⊎ Contains xs y
first_or_later x y xs there =
    ⊎_elim (λ here. inl (only_one x y here)) (λ later. inr later) (Contains-append_cases (x ∷ []) xs y there)

module _ {A : Type 0} (p : A → Bool) where
  filtered_step : (x y : A) (xs : List A) → (Contains (filter p xs) y → Contains xs y × (p y ≡ true)) → (b : Bool) → p x ≡ b → Contains (filter p (x ∷ xs)) y → Contains (x ∷ xs) y × (p y ≡ true)
  filtered_step x y xs rest true t there =
      ⊎_elim {C = Contains (x ∷ xs) y × (p y ≡ true)}
      (λ here. (subst (λ z. Contains (x ∷ xs) z) (sym here) (first_in x xs), ap p here ∙ t))
      (λ later. (later_in x y xs (rest later).0, (rest later).1))
      (first_or_later x y (filter p xs) (subst (λ l. Contains l y) (passed p x xs t) there))
  filtered_step x y xs rest false f there =
      let h = rest (subst (λ l. Contains l y) (left_out p x xs f) there) in (later_in x y xs h.0, h.1)

  pub filtered : (xs : List A) (y : A) → Contains (filter p xs) y → Contains xs y × (p y ≡ true)
  filtered [] y there = absurd (none_in y there)
  filtered (x ∷ xs) y there = filtered_step x y xs (filtered xs y) (p x) refl there

  kept_step : (x y : A) (xs : List A) → (Contains xs y → Contains (filter p xs) y) → p y ≡ true → (b : Bool) → p x ≡ b → Contains (x ∷ xs) y → Contains (filter p (x ∷ xs)) y
  kept_step x y xs rest passes true t there =
      subst (λ l. Contains l y) (sym (passed p x xs t))
      (⊎_elim {C = Contains (x ∷ filter p xs) y}
      (λ here. subst (λ z. Contains (x ∷ filter p xs) z) (sym here) (first_in x (filter p xs)))
      (λ later. later_in x y (filter p xs) (rest later))
      (first_or_later x y xs there))
  kept_step x y xs rest passes false f there =
      subst (λ l. Contains l y) (sym (left_out p x xs f))
      (⊎_elim {C = Contains (filter p xs) y}
      (λ here. let no_pass : true ≡ false = sym passes ∙ ap p here ∙ f in absurd cc)
      (λ later. rest later)
      (first_or_later x y xs there))

  pub kept : (xs : List A) (y : A) → p y ≡ true → Contains xs y → Contains (filter p xs) y
  kept [] y passes there = absurd (none_in y there)
  kept (x ∷ xs) y passes there = kept_step x y xs (kept xs y passes) passes (p x) refl there

front_in : {A : Type 0} (n : ℕ) (xs : List A) (y : A) → Contains (take n xs) y → Contains xs y
front_in zero xs y there = absurd (none_in y there)
front_in (suc n) [] y there = absurd (none_in y there)
front_in (suc n) (x ∷ xs) y there =
    ⊎_elim {C = Contains (x ∷ xs) y}
    (λ here. subst (λ z. Contains (x ∷ xs) z) (sym here) (first_in x xs))
    (λ later. later_in x y xs (front_in n xs y later))
    (first_or_later x y (take n xs) there)

-- what a retrieval gives
abbrev candidates : List ℕ → OutPos → List Output → List Output
candidates e p outputs = filter (is_from p) (outputs_to e outputs)

pub given : (outputs : List Output) (e : List ℕ) (p : OutPos) (o : Output) → Contains (retrieved e p outputs) o → Contains outputs o × (o.dest ≡ e) × (is_from p o ≡ true)
given outputs e p o there =
    let late = filtered (is_from p) (outputs_to e outputs) o (front_in retrieval_limit (candidates e p outputs) o there) in
    let own = filtered (λ (x : Output). bytes_eq e x.dest) outputs o late.0 in
    (own.0, sym ((bytes_eq-Decides e o.dest).0 own.1), late.1)

pub at_most : (outputs : List Output) (e : List ℕ) (p : OutPos) → length (retrieved e p outputs) ≤ 64
at_most outputs e p = let n = length-take 64 (candidates e p outputs) in omega (arith, n)

all_given : (outputs : List Output) (e : List ℕ) (p : OutPos) → length (retrieved e p outputs) < 64 → retrieved e p outputs ≡ candidates e p outputs
all_given outputs e p few = let n = length-take 64 (candidates e p outputs) in take_all 64 (candidates e p outputs) (omega (arith, n, few))

pub each_given : (outputs : List Output) (e : List ℕ) (p : OutPos) (o : Output) → length (retrieved e p outputs) < 64 → Contains outputs o → o.dest ≡ e → is_from p o ≡ true → Contains (retrieved e p outputs) o
each_given outputs e p o few there own late =
    subst (λ l. Contains l o) (sym (all_given outputs e p few))
    (kept (is_from p) (outputs_to e outputs) o late (kept (λ (x : Output). bytes_eq e x.dest) outputs o ((bytes_eq-Decides e o.dest).1 (sym own)) there))

pub first_stay : (outputs more : List Output) (e : List ℕ) (p : OutPos) → length (retrieved e p outputs) ≡ 64 → retrieved e p (outputs ++ more) ≡ retrieved e p outputs
first_stay outputs more e p full =
    let n = length-take 64 (candidates e p outputs) in
    ap (take 64) (ap (filter (is_from p)) (filter-append (λ (o : Output). bytes_eq e o.dest) outputs more) ∙ filter-append (is_from p) (outputs_to e outputs) (outputs_to e more))
    ∙ take-append-le 64 (candidates e p outputs) (candidates e p more) (omega (arith, n, full))

-- nothing is at a position or after it exactly where all is before it
pub all_before : (p : OutPos) (xs : List Output) → list_all (is_before p) xs ≡ true → filter (is_from p) xs ≡ []
all_before p [] all = refl
all_before p (x ∷ xs) all =
    let h = both (is_before p x) (list_all (is_before p) xs) all in
    left_out (is_from p) x xs (not_true (is_from p x) h.0) ∙ all_before p xs h.1
  where
    not_true : (b : Bool) → not b ≡ true → b ≡ false
    not_true true n = absurd cc
    not_true false n = refl

none_from_step : (p : OutPos) (x : Output) (xs : List Output) → filter (is_from p) (x ∷ xs) ≡ [] → (filter (is_from p) xs ≡ [] → list_all (is_before p) xs ≡ true)
    → (b : Bool) → is_from p x ≡ b → list_all (is_before p) (x ∷ xs) ≡ true
none_from_step p x xs none rest true t = let more : x ∷ filter (is_from p) xs ≡ [] = sym (passed (is_from p) x xs t) ∙ none in absurd cc
none_from_step p x xs none rest false f = and_from _ _ (ap not f) (rest (sym (left_out (is_from p) x xs f) ∙ none))

none_from : (p : OutPos) (xs : List Output) → filter (is_from p) xs ≡ [] → list_all (is_before p) xs ≡ true
none_from p [] none = refl
none_from p (x ∷ xs) none = none_from_step p x xs none (λ n. none_from p xs n) (is_from p x) refl

front_empty : {A : Type 0} (n : ℕ) (xs : List A) → take (suc n) xs ≡ [] → xs ≡ []
front_empty n [] none = refl
front_empty n (x ∷ xs) none = absurd cc

pub above_none : (outputs : List Output) (e : List ℕ) (p : OutPos) → is_above e p outputs ≡ true → retrieved e p outputs ≡ []
above_none outputs e p above = ap (take 64) (all_before p (outputs_to e outputs) above)

pub none_above : (outputs : List Output) (e : List ℕ) (p : OutPos) → retrieved e p outputs ≡ [] → is_above e p outputs ≡ true
none_above outputs e p none = none_from p (outputs_to e outputs) (front_empty 63 (candidates e p outputs) none)
