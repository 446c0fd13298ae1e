-- The outputs that a retrieval gives, from the places of their entries, and that each of them fits.
use Rattle.std.proofs.Common.{◌≡◌, ⊎_elim, inl, inr, refl, sym, ap, subst, ◌∙◌, ℕ, zero, suc, ◌+◌, ◌<◌, ◌≤◌, ◌==◌, Bool, true, false, cond, List, [], ◌∷◌, ◌++◌, length, map, take, filter, get_or, Option, Some, None, option_map, append_assoc, arith}
use Rattle.std.specs.Prelude.{IsSome, bytes_eq}
use Rattle.std.specs.List.{Contains, find}
use Rattle.std.specs.Option.{option_or}
use Rattle.std.proofs.lemmas.Bool.{eq-eqb}
use Rattle.std.proofs.lemmas.List.{length-map, map-append, take_more}
use Rattle.std.proofs.lemmas.List.Elements.{Contains-append_cases}
use Rattle.std.proofs.lemmas.List.Folds.{find-append}
use Rattle.faim_base.specs.declared.ids.OutPos.{OutPos}
use Rattle.faim_base.specs.declared.judgement.Verdict.TheVariants.{Taken, Refused}
use Rattle.faim_base.specs.Numbers.{IsMoment}
use Rattle.host_ledger.specs.declared.config.Config.{Config}
use Rattle.host_ledger.specs.declared.entries.Entry.{Entry}
use Rattle.host_ledger.specs.declared.entries.Entry.TheVariants.{Posted, Roll}
use Rattle.host_ledger.specs.Accounts.{has_endpoint}
use Rattle.host_ledger.specs.Soundness.{IsConfig}
use Rattle.link_frames.specs.declared.frame.FrameKind.TheVariants.{Output}
use Rattle.link_frames.specs.Frames.{Content as Frame, frame_bytes, greatest_payload}
use Rattle.faim_model.specs.Outputs.{Item, is_from, item_of, one_if, outputs, places_of, retrieved}
use Rattle.faim_model.specs.Lawful.{Lawful, last_moment}
use Rattle.faim_model.specs.Frames.{output}
use Rattle.faim_model.specs.Items.{item_at, position_at}
use Rattle.faim_model.specs.Payloads.{output_payload, payload_of}
use Rattle.faim_model.proofs.Covering.{covered_fits}
use Rattle.faim_model.proofs.Drawn.{from_filter, from_take}
use Rattle.faim_model.proofs.Members.{first_in, first_or_later, later_in, none_in}
use Rattle.host_core.proofs.ItemPlaces.{none_past}
use Rattle.host_turns.proofs.GivenItems.{is_some_at}
use Rattle.host_node.specs.Preparing.{AreGiven}
use Rattle.host_node.specs.Resending.{output_to}

-- an entry's own item is found at its place
own_found : (gets : Bool) (own i : Item) (place : ℕ) → own.place ≡ place → Contains (one_if gets own) i
    → (i.place ≡ place) × (find (λ (j : Item). j.place == place) (one_if gets own) ≡ Some i)
own_found true own i place at there =
    let same : i ≡ own = ⊎_elim (λ here. here) (λ (later : Contains [] i). absurd (none_in i later)) (first_or_later own i [] there) in (
      ap (λ (j : Item). j.place) same ∙ at,
      ap (λ (b : Bool). cond b (Some own) None) (eq-eqb own.place place at) ∙ ap Some (sym same),
    )
own_found false own i place at there = absurd (none_in i there)

entry_found : (c : Config) (older : List Entry) (before : List Item) (x : Entry) (e : List ℕ) (i : Item) → Contains (item_of c older before x e) i
    → (i.place ≡ length older) × (find (λ (j : Item). j.place == length older) (item_of c older before x e) ≡ Some i)
entry_found c older before (Posted h body resent moment (Taken dest seq)) e i there = own_found (bytes_eq dest e) _ i (length older) refl there
entry_found c older before (Posted h body resent moment (Refused why)) e i there = absurd (none_in i there)
entry_found c older before (Roll moment date) e i there = own_found (has_endpoint c.accounts e) _ i (length older) refl there

-- so is each item
pub item_found : (c : Config) (es : List Entry) (e : List ℕ) (i : Item) → Contains (outputs c es e) i → item_at c es e i.place ≡ Some i
item_found c [] e i there = absurd (none_in i there)
item_found c (x ∷ older) e i there =
    let before : List Item = outputs c older e in
    let own : List Item = item_of c older before x e in
    ⊎_elim
    (λ (early : Contains before i). find-append (λ (j : Item). j.place == i.place) before own
    ∙ ap (λ (o : Option Item). option_or o (find (λ (j : Item). j.place == i.place) own)) (item_found c older e i early))
    (λ (late : Contains own i). let f = entry_found c older before x e i late in
    subst (λ (n : ℕ). find (λ (j : Item). j.place == n) (before ++ own) ≡ Some i) (sym f.0)
    (find-append (λ (j : Item). j.place == length older) before own
    ∙ ap (λ (o : Option Item). option_or o (find (λ (j : Item). j.place == length older) own)) (none_past c older e (length older) (omega arith)) ∙ f.1))
    (Contains-append_cases before own i there)

-- the item that stands at a place among places
item_there : (items : List Item) (place : ℕ) → Contains (places_of items) place → (i : Item) × Contains items i × (i.place ≡ place)
item_there [] place there = absurd (none_in place there)
item_there (i ∷ items) place there =
    ⊎_elim (λ (here : place ≡ i.place). (i, first_in i items, sym here))
    (λ (later : Contains (places_of items) place). let r = item_there items place later in (r.0, later_in i r.0 items r.1, r.2))
    (first_or_later i.place place (places_of items) there)

module _ (c : Config) (es : List Entry) (e : List ℕ) (p : OutPos) where
  given : (i : Item) → Contains (retrieved c es e p) i → Contains (outputs c es e) i
  given i there = from_filter (is_from p) (outputs c es e) i (from_take 64 (filter (is_from p) (outputs c es e)) i there)

  sent : (i : Item) → Contains (retrieved c es e p) i → output c e i 82 ≡ output_to c es i.place 82 e
  sent i there =
      ap (λ (o : Option Item). record { kind = Output; endpoint = e; payload = payload_of (option_map (λ i. output c e i 82) o) })
      (sym (item_found c es e i (given i there)))

  fits : IsConfig c → Lawful c es → IsMoment (last_moment es) → (i : Item) → Contains (retrieved c es e p) i
      → length (output_payload c es e i.place 82) ≤ greatest_payload
  fits sound lawful timed i there =
      subst (λ (f : Frame). length f.payload ≤ greatest_payload) (sent i there)
      (covered_fits c es (output c e i 82) sound lawful timed
      (inr (inl (record { line = e; item = i; there = given i there; mark = 82; marked = inr (inr refl); sent = refl })))).payload

  -- the places that a retrieval finds are those of outputs that fit
  pub are_given : IsConfig c → Lawful c es → IsMoment (last_moment es) → (places : List ℕ) → places ≡ places_of (retrieved c es e p) → AreGiven c es e places
  are_given sound lawful timed places are =
      subst (AreGiven c es e) (sym are)
      (record {
        given = λ place there.
            let r = item_there (retrieved c es e p) place there in
            subst (λ (k : ℕ). IsSome (position_at c es e k)) r.2
            (is_some_at (position_at c es e r.0.place) r.0.at (ap (option_map (λ (i : Item). i.at)) (item_found c es e r.0 (given r.0 r.1))));
        fits = λ place there.
            let r = item_there (retrieved c es e p) place there in
            subst (λ (k : ℕ). length (output_payload c es e k 82) ≤ greatest_payload) r.2 (fits sound lawful timed r.0 r.1);
      })

  each_sent : (items : List Item) → ((i : Item) → Contains items i → output c e i 82 ≡ output_to c es i.place 82 e)
      → map (λ (place : ℕ). output_to c es place 82 e) (places_of items) ≡ map (λ i. output c e i 82) items
  each_sent [] same = refl
  each_sent (i ∷ items) same = (λ k. sym (same i (first_in i items)) k ∷ each_sent items (λ j there. same j (later_in i j items there)) k)

  -- and what is sent of them is what the retrieval gives
  pub all_sent : (places : List ℕ) → places ≡ places_of (retrieved c es e p)
      → map frame_bytes (map (λ (place : ℕ). output_to c es place 82 e) places) ≡ map frame_bytes (map (λ i. output c e i 82) (retrieved c es e p))
  all_sent places are =
      ap (λ (l : List ℕ). map frame_bytes (map (λ (place : ℕ). output_to c es place 82 e) l)) are
      ∙ ap (map frame_bytes) (each_sent (retrieved c es e p) sent)

-- how many they are
pub as_many : (items : List Item) (places : List ℕ) → places ≡ places_of items → length places ≡ length items
as_many items places are = ap length are ∙ length-map items (λ (i : Item). i.place)

-- each place stands among the places
pub in_places : (places : List ℕ) (n : ℕ) → n < length places → Contains places (get_or places n 0)
in_places [] n lt = absurd (omega (arith, lt))
in_places (x ∷ places) zero lt = first_in x places
in_places (x ∷ places) (suc n) lt = later_in x (get_or places n 0) places (in_places places n (omega (arith, lt)))

-- one place more
pub one_place : (frame : ℕ → Frame) (old mid new : List (List ℕ)) (places : List ℕ) (n : ℕ) → n < length places
    → mid ≡ old ++ map frame_bytes (map frame (take n places)) → new ≡ mid ++ frame_bytes (frame (get_or places n 0)) ∷ []
    → new ≡ old ++ map frame_bytes (map frame (take (n + 1) places))
one_place frame old mid new places n lt before after =
    let x : ℕ = get_or places n 0 in
    after ∙ ap (λ (l : List (List ℕ)). l ++ frame_bytes (frame x) ∷ []) before
    ∙ append_assoc old (map frame_bytes (map frame (take n places))) (frame_bytes (frame x) ∷ [])
    ∙ ap (λ (l : List (List ℕ)). old ++ l)
    (sym (map-append frame_bytes (map frame (take n places)) (frame x ∷ []))
    ∙ ap (map frame_bytes) (sym (map-append frame (take n places) (x ∷ [])) ∙ ap (map frame) (sym (take_more places n 0 lt))))
