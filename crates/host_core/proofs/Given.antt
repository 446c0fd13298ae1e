-- What an index of entries holds of an endpoint is what goes to it, and the next entry's outputs come after that.
use Rattle.std.proofs.Common.{◌≡◌, refl, sym, ◌∙◌, ap, subst, ℕ, ◌+◌, ◌==◌, Bool, true, false, cond, not, List, [], ◌∷◌, ◌++◌, length, take, map, filter, if◌then◌else◌, arith}
use Rattle.std.specs.Prelude.{bytes_eq}
use Rattle.std.specs.List.{AllByRecursion, list_all, IsDistinct}
use Rattle.std.proofs.lemmas.Bool.{and_from}
use Rattle.std.proofs.lemmas.List.{length-map, map-append, take-map}
use Rattle.std.proofs.lemmas.List.Elements.{filter-append}
use Rattle.faim_base.specs.declared.ids.OutPos.{OutPos}
use Rattle.faim_base.specs.declared.judgement.Verdict.TheVariants.{Taken, Refused}
use Rattle.faim_base.specs.Ids.{is_up_to}
use Rattle.host_ledger.specs.declared.config.Config.{Config}
use Rattle.host_ledger.specs.declared.entries.Entry.{Entry}
use Rattle.host_ledger.specs.declared.entries.Entry.TheVariants.{Posted, Roll}
use Rattle.host_ledger.specs.Accounts.{endpoints_of, has_endpoint}
use Rattle.host_ledger.specs.Sums.{cycle}
use Rattle.host_ledger.proofs.EndpointLists.{bytes_eq_sym}
use Rattle.host_index.specs.Index as indexed
use Rattle.host_index.specs.Index.{Output, are_above, is_above, is_before, outputs_at, outputs_to}
use Rattle.host_index.proofs.Apart.{each_above}
use Rattle.faim_model.specs.Outputs as modelled
use Rattle.faim_model.specs.Outputs.{Item, count_under, item_of, one_if, outputs, sent_in_cycle}
use Rattle.faim_model.specs.Lawful.{Lawful, Rises}
use Rattle.faim_model.proofs.Imads.{bytes_equal, bytes_pass}
use Rattle.faim_model.proofs.Rising.{outputs_go_on}
use Rattle.host_core.specs.Kept.{ends_after, given_by, given_in}
use Rattle.host_core.proofs.Endpoints.{each_serves, endpoints_distinct, only, only_once}

-- an item as an output to an endpoint
abbrev pub output_to : List ℕ → Item → Output
output_to e i = record { dest = e; at = i.at; place = i.place }

-- an end of each endpoint, at a position by the endpoint
module _ (position : List ℕ → OutPos) where
  abbrev ends_of : List (List ℕ) → List (List ℕ × OutPos)
  ends_of endpoints = map (λ d. (d, position d)) endpoints

  ended_step : (place : ℕ) (d : List ℕ) (rest : List (List ℕ)) (b : Bool)
      → cond b (record { dest = d; at = position d; place = place } ∷ outputs_at place (ends_of rest)) (outputs_at place (ends_of rest))
      ≡ outputs_at place (ends_of (cond b (d ∷ rest) rest))
  ended_step place d rest true = refl
  ended_step place d rest false = refl

  -- of the ends those of the endpoint are the ends of the endpoints that equal it
  ended_at : (place : ℕ) (e : List ℕ) (endpoints : List (List ℕ)) → outputs_to e (outputs_at place (ends_of endpoints)) ≡ outputs_at place (ends_of (only e endpoints))
  ended_at place e [] = refl
  ended_at place e (d ∷ rest) =
      ap (λ (l : List Output). cond (bytes_eq e d) (record { dest = d; at = position d; place = place } ∷ l) l) (ended_at place e rest)
      ∙ ended_step place d (only e rest) (bytes_eq e d)

  ends_names : (endpoints : List (List ℕ)) → map (λ (end : List ℕ × OutPos). end.0) (ends_of endpoints) ≡ endpoints
  ends_names [] = refl
  ends_names (d ∷ rest) = ap (λ (l : List (List ℕ)). d ∷ l) (ends_names rest)

  -- each end is above the outputs where that of each endpoint is
  ends_above : (sent : List Output) (endpoints : List (List ℕ)) → AllByRecursion (λ d. is_above d (position d) sent ≡ true) endpoints
      → list_all (λ end. is_above end.0 end.1 sent) (ends_of endpoints) ≡ true
  ends_above sent [] all = refl
  ends_above sent (d ∷ rest) all = and_from (is_above d (position d) sent) (list_all (λ end. is_above end.0 end.1 sent) (ends_of rest)) all.0 (ends_above sent rest all.1)

-- a message's output goes to the endpoint exactly where its item does
posted_to : (e dest : List ℕ) (at : OutPos) (place : ℕ) (x : Entry) (same : Bool) → bytes_eq dest e ≡ same
    → cond same (record { dest = dest; at = at; place = place } ∷ []) [] ≡ map (output_to e) (one_if same (record { at = at; place = place; entry = x }))
posted_to e dest at place x true same = ap (λ (d : List ℕ). record { dest = d; at = at; place = place } ∷ []) (bytes_equal dest e same)
posted_to e dest at place x false differs = refl

ended_to : (e : List ℕ) (position : List ℕ → OutPos) (place : ℕ) (x : Entry) (has : Bool)
    → outputs_at place (map (λ d. (d, position d)) (if has then e ∷ [] else [])) ≡ map (output_to e) (one_if has (record { at = position e; place = place; entry = x }))
ended_to e position place x true = refl
ended_to e position place x false = refl

-- what an entry gives the endpoint
own_given : (c : Config) (older : List Entry) (x : Entry) (e : List ℕ)
    → outputs_to e (outputs_at (length older) (given_by c older x)) ≡ map (output_to e) (item_of c older (outputs c older e) x e)
own_given c older (Posted h body resent moment (Taken dest seq)) e =
    let at : OutPos = record { date = h.imad.date; seq = seq } in
    ap (λ (b : Bool). cond b (record { dest = dest; at = at; place = length older } ∷ []) []) (bytes_eq_sym e dest)
    ∙ posted_to e dest at (length older) (Posted h body resent moment (Taken dest seq)) (bytes_eq dest e) refl
own_given c older (Posted h body resent moment (Refused why)) e = refl
own_given c older (Roll moment date) e =
    let position : List ℕ → OutPos = λ d. record { date = cycle c older; seq = sent_in_cycle c older d + 1 } in
    ended_at position (length older) e (endpoints_of c.accounts)
    ∙ ap (λ (l : List (List ℕ)). outputs_at (length older) (map (λ d. (d, position d)) l)) (only_once c.accounts e)
    ∙ ended_to e position (length older) (Roll moment date) (has_endpoint c.accounts e)

-- what entries give an endpoint are its items
pub given_to : (c : Config) (es : List Entry) (e : List ℕ) → outputs_to e (given_in c es) ≡ map (output_to e) (outputs c es e)
given_to c [] e = refl
given_to c (x ∷ older) e =
    filter-append (λ (o : Output). bytes_eq e o.dest) (given_in c older) (outputs_at (length older) (given_by c older x))
    ∙ ap (λ (l : List Output). l ++ outputs_to e (outputs_at (length older) (given_by c older x))) (given_to c older e)
    ∙ ap (λ (l : List Output). map (output_to e) (outputs c older e) ++ l) (own_given c older x e)
    ∙ sym (map-append (output_to e) (outputs c older e) (item_of c older (outputs c older e) x e))

-- a test of the items' positions picks the same outputs
picked : (e : List ℕ) (p : Output → Bool) (items : List Item) → filter p (map (output_to e) items) ≡ map (output_to e) (filter (λ i. p (output_to e i)) items)
picked e p [] = refl
picked e p (i ∷ items) =
    ap (λ (l : List Output). cond (p (output_to e i)) (output_to e i ∷ l) l) (picked e p items)
    ∙ mapped_step (p (output_to e i)) (filter (λ j. p (output_to e j)) items)
  where
    mapped_step : (b : Bool) (rest : List Item) → cond b (output_to e i ∷ map (output_to e) rest) (map (output_to e) rest) ≡ map (output_to e) (cond b (i ∷ rest) rest)
    mapped_step true rest = refl
    mapped_step false rest = refl

counted_items : (e : List ℕ) (date : ℕ) (items : List Item) → length (filter (indexed.is_under date) (map (output_to e) items)) ≡ count_under date items
counted_items e date [] = refl
counted_items e date (i ∷ items) =
    counted_step (i.at.date == date) (output_to e i) (filter (indexed.is_under date) (map (output_to e) items))
    ∙ ap (λ (n : ℕ). n + (if i.at.date == date then 1 else 0)) (counted_items e date items)
  where
    counted_step : (b : Bool) (o : Output) (rest : List Output) → length (cond b (o ∷ rest) rest) ≡ length rest + (if b then 1 else 0)
    counted_step true o rest = omega arith
    counted_step false o rest = omega arith

same_places : (e : List ℕ) (items : List Item) → indexed.places_of (map (output_to e) items) ≡ modelled.places_of items
same_places e [] = refl
same_places e (i ∷ items) = ap (λ (l : List ℕ). i.place ∷ l) (same_places e items)

-- the index counts an endpoint's items under a date, and over all dates
pub counted_to : (c : Config) (es : List Entry) (e : List ℕ) (date : ℕ)
    → length (filter (indexed.is_under date) (outputs_to e (given_in c es))) ≡ count_under date (outputs c es e)
counted_to c es e date =
    ap (λ (l : List Output). length (filter (indexed.is_under date) l)) (given_to c es e) ∙ counted_items e date (outputs c es e)

pub total_to : (c : Config) (es : List Entry) (e : List ℕ) → length (outputs_to e (given_in c es)) ≡ length (outputs c es e)
total_to c es e = ap length (given_to c es e) ∙ length-map (outputs c es e) (output_to e)

-- it gives the places of the items that a retrieval gives
pub retrieved_to : (c : Config) (es : List Entry) (e : List ℕ) (p : OutPos)
    → indexed.places_of (indexed.retrieved e p (given_in c es)) ≡ modelled.places_of (modelled.retrieved c es e p)
retrieved_to c es e p =
    ap (λ (l : List Output). indexed.places_of (take 64 l))
    (ap (filter (indexed.is_from p)) (given_to c es e) ∙ picked e (indexed.is_from p) (outputs c es e))
    ∙ ap indexed.places_of (take-map (output_to e) 64 (filter (modelled.is_from p) (outputs c es e)))
    ∙ same_places e (modelled.retrieved c es e p)

-- all items stand before this position
abbrev AreBefore : OutPos → List Item → Type 0
AreBefore p items = AllByRecursion (λ i. is_up_to p i.at ≡ false) items

-- where items rise, those before the last stand before it
last_after : (i j : Item) (items : List Item) → AllByRecursion (λ k. is_up_to k.at i.at ≡ false) (items ++ j ∷ []) → is_up_to j.at i.at ≡ false
last_after i j [] all = all.0
last_after i j (k ∷ items) all = last_after i j items all.1

before_last : (items : List Item) (j : Item) → Rises (items ++ j ∷ []) → AreBefore j.at items
before_last [] j rises = tt
before_last (i ∷ items) j rises = (last_after i j items rises.0, before_last items j rises.1)

before_next : (items : List Item) (j : Item) (gets : Bool) → gets ≡ true → Rises (items ++ one_if gets j) → AreBefore j.at items
before_next items j true gets rises = before_last items j rises
before_next items j false gets rises = absurd cc

-- a position after an endpoint's items is above all that the index has of it
all_before : (e : List ℕ) (p : OutPos) (items : List Item) → AreBefore p items → list_all (is_before p) (map (output_to e) items) ≡ true
all_before e p [] before = refl
all_before e p (i ∷ items) before = and_from (not (is_up_to p i.at)) (list_all (is_before p) (map (output_to e) items)) (ap not before.0) (all_before e p items before.1)

above_given : (c : Config) (older : List Entry) (e : List ℕ) (p : OutPos) → AreBefore p (outputs c older e) → is_above e p (given_in c older) ≡ true
above_given c older e p before = ap (list_all (is_before p)) (given_to c older e) ∙ all_before e p (outputs c older e) before

-- the end of a cycle is above what its endpoint has
end_above : (c : Config) (older : List Entry) (moment date : ℕ) (e : List ℕ) → Lawful c (Roll moment date ∷ older) → has_endpoint c.accounts e ≡ true
    → is_above e (record { date = cycle c older; seq = sent_in_cycle c older e + 1 }) (given_in c older) ≡ true
end_above c older moment date e lawful has =
    let at : OutPos = record { date = cycle c older; seq = sent_in_cycle c older e + 1 } in
    let end : Item = record { at = at; place = length older; entry = Roll moment date } in
    above_given c older e at (before_next (outputs c older e) end (has_endpoint c.accounts e) has (outputs_go_on c (Roll moment date ∷ older) e lawful).rises)

each_end_above : (c : Config) (older : List Entry) (moment date : ℕ) (endpoints : List (List ℕ)) → Lawful c (Roll moment date ∷ older)
    → AllByRecursion (λ d. has_endpoint c.accounts d ≡ true) endpoints
    → AllByRecursion (λ d. is_above d (record { date = cycle c older; seq = sent_in_cycle c older d + 1 }) (given_in c older) ≡ true) endpoints
each_end_above c older moment date [] lawful all = tt
each_end_above c older moment date (d ∷ rest) lawful all = (end_above c older moment date d lawful all.0, each_end_above c older moment date rest lawful all.1)

-- what an entry that may come next gives may be added to the index
pub may_be_given : (c : Config) (x : Entry) (older : List Entry) → Lawful c (x ∷ older) → are_above (length older) (given_by c older x) (given_in c older) ≡ true
may_be_given c (Posted h body resent moment (Refused why)) older lawful = refl
may_be_given c (Posted h body resent moment (Taken dest seq)) older lawful =
    let post : Entry = Posted h body resent moment (Taken dest seq) in
    let at : OutPos = record { date = h.imad.date; seq = seq } in
    let item : Item = record { at = at; place = length older; entry = post } in
    let before : AreBefore at (outputs c older dest) =
    before_next (outputs c older dest) item (bytes_eq dest dest) (bytes_pass dest dest refl) (outputs_go_on c (post ∷ older) dest lawful).rises in
    and_from (is_above dest at (given_in c older)) true (above_given c older dest at before) refl
may_be_given c (Roll moment date) older lawful =
    let position : List ℕ → OutPos = λ d. record { date = cycle c older; seq = sent_in_cycle c older d + 1 } in
    let endpoints : List (List ℕ) = endpoints_of c.accounts in
    each_above (ends_after c older) (given_in c older) (length older) (subst (IsDistinct bytes_eq) (sym (ends_names position endpoints)) (endpoints_distinct c.accounts))
    ∙ ends_above position (given_in c older) endpoints (each_end_above c older moment date endpoints lawful (each_serves c.accounts))
