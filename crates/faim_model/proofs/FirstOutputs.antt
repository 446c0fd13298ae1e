-- What an endpoint is sent for the first time are its new outputs.
use Rattle.std.proofs.Common.{◌≡◌, refl, sym, ap, subst, ◌∙◌, ℕ, ◌==◌, ◌&&◌, Bool, true, false, cond, List, [], ◌∷◌, ◌++◌, append-nil, append_assoc, map, filter, Option, Some, None}
use Rattle.std.specs.Prelude.{bytes_eq}
use Rattle.std.specs.List.{Contains, flat_map}
use Rattle.std.specs.Option.{option_to_list}
use Rattle.std.proofs.lemmas.List.{map-append}
use Rattle.std.proofs.lemmas.List.Elements.{filter-append}
use Rattle.host_ledger.specs.declared.config.Config.{Config}
use Rattle.host_ledger.specs.declared.entries.Entry.{Entry}
use Rattle.host_ledger.specs.declared.entries.Entry.TheVariants.{Posted, Roll}
use Rattle.host_ledger.specs.Accounts.{endpoints_of, has_endpoint}
use Rattle.host_ledger.proofs.EndpointLists.{bytes_eq_sym}
use Rattle.link_frames.specs.Frames.{Content as Frame}
use Rattle.faim_model.specs.Outputs.{Item, item_of, outputs, retrieved}
use Rattle.faim_model.specs.Lawful.{Follows}
use Rattle.faim_model.specs.Turns.{adds_to, effective}
use Rattle.faim_model.specs.Frames.{ack_of, output}
use Rattle.faim_model.specs.Sending.{frames_of, given_to, is_first_output}
use Rattle.faim_model.specs.Steps.{HostStep, host_step}
use Rattle.faim_model.specs.Sessions.{Arrival, entries_after, entries_with, frames_at}
use Rattle.faim_model.proofs.Exact.{item_served}
use Rattle.faim_model.proofs.Imads.{bytes_pass}
use Rattle.faim_model.proofs.Members.{first_in}
use Rattle.faim_model.proofs.Outcomes.{sends_own}
use Rattle.faim_model.proofs.Served.{once}
use Rattle.faim_model.proofs.StepCases.{Again, Away, GoesOn, New, Refuses, Retrieves, StaysAt, StepCase, Submits, step_case}
use Rattle.faim_model.proofs.Stepping.{step_follows}

-- a list without members
no_members : {A : Type 0} (xs : List A) → ((x : A) → Contains xs x → ⊥) → xs ≡ []
no_members [] none = refl
no_members (x ∷ xs) none = absurd (none x (first_in x xs))

filter_each : {A B : Type 0} (p : B → Bool) (f : A → List B) (xs : List A) → filter p (flat_map f xs) ≡ flat_map (λ x. filter p (f x)) xs
filter_each p f [] = refl
filter_each p f (x ∷ xs) = filter-append p (f x) (flat_map f xs) ∙ ap (λ l. filter p (f x) ++ l) (filter_each p f xs)

module _ (c : Config) (e : List ℕ) where
  -- of the outputs to one endpoint with one mark all are sent to it for the first time, or none
  all_or_none : (d : List ℕ) (mark : ℕ) (items : List Item) (own blank : Bool) → bytes_eq d e ≡ own → (mark == 32) ≡ blank
      → filter (is_first_output e) (map (λ i. output c d i mark) items) ≡ cond (own && blank) (map (λ i. output c d i mark) items) []
  all_or_none d mark [] own blank to_own is_blank = no_items (own && blank)
    where
      no_items : (b : Bool) → ◌≡◌ {A = List Frame} [] (cond b [] [])
      no_items true = refl
      no_items false = refl
  all_or_none d mark (i ∷ items) own blank to_own is_blank =
      (λ k. cond (to_own k && is_blank k) (output c d i mark ∷ all_or_none d mark items own blank to_own is_blank k) (all_or_none d mark items own blank to_own is_blank k))
      ∙ both (own && blank) (map (λ i. output c d i mark) items)
    where
      both : (b : Bool) (l : List Frame) → cond b (output c d i mark ∷ cond b l []) (cond b l []) ≡ cond b (output c d i mark ∷ l) []
      both true l = refl
      both false l = refl

  no_ack : (x : Entry) → filter (is_first_output e) (option_to_list (ack_of c 32 x)) ≡ []
  no_ack (Posted h body resent moment v) = refl
  no_ack (Roll moment date) = refl

  -- of an entry's frames these are what it gives the endpoint
  entry_first : (older : List Entry) (x : Entry) → Follows c older x
      → filter (is_first_output e) (frames_of c older x 32) ≡ map (λ i. output c e i 32) (item_of c older (outputs c older e) x e)
  entry_first older x follows =
      filter-append (is_first_output e) (option_to_list (ack_of c 32 x)) (flat_map (given_to c older x 32) (endpoints_of c.accounts))
      ∙ ap (λ (l : List Frame). l ++ filter (is_first_output e) (flat_map (given_to c older x 32) (endpoints_of c.accounts))) (no_ack x)
      ∙ filter_each (is_first_output e) (given_to c older x 32) (endpoints_of c.accounts)
      ∙ once (λ d. filter (is_first_output e) (given_to c older x 32 d)) e
      (λ d apart. all_or_none d 32 (item_of c older (outputs c older d) x d) false true (bytes_eq_sym d e ∙ apart) refl) c.accounts
      ∙ by_served (has_endpoint c.accounts e) refl
    where
      by_served : (b : Bool) → has_endpoint c.accounts e ≡ b
          → cond b (filter (is_first_output e) (given_to c older x 32 e)) [] ≡ map (λ i. output c e i 32) (item_of c older (outputs c older e) x e)
      by_served true is = all_or_none e 32 (item_of c older (outputs c older e) x e) true true (bytes_pass e e refl) refl
      by_served false is =
          let none : item_of c older (outputs c older e) x e ≡ [] =
          no_members (item_of c older (outputs c older e) x e)
          (λ i there. let both : true ≡ false = sym (item_served c older 32 x (outputs c older e) e i follows there) ∙ is in absurd cc) in
          ap (map (λ (i : Item). output c e i 32)) (sym none)

  -- a step that adds nothing sends none
  abbrev SendsNone : HostStep → Type 0
  SendsNone s = s.adds ≡ None → filter (is_first_output e) s.sends ≡ []

  again_none : (d : List ℕ) (items : List Item) (own : Bool) → bytes_eq d e ≡ own → filter (is_first_output e) (map (λ i. output c d i 82) items) ≡ []
  again_none d items true is = all_or_none d 82 items true false is refl
  again_none d items false is = all_or_none d 82 items false false is refl

  none_by : (es : List Entry) (f : Frame) (t : ℕ) (s : HostStep) → StepCase c es f t s → SendsNone s
  none_by es f t s (Submits kind (New p)) = subst SendsNone (sym p.gives) (λ adds. absurd cc)
  none_by es f t s (Submits kind (Again k)) = subst SendsNone (sym k.gives) (λ adds. refl)
  none_by es f t s (Submits kind (Away a)) = subst SendsNone (sym a.gives) (λ adds. refl)
  none_by es f t s (Retrieves p asks gives) =
      subst SendsNone (sym gives) (λ adds. again_none f.endpoint (retrieved c es f.endpoint p) (bytes_eq f.endpoint e) refl)
  none_by es f t s (GoesOn date asks later gives) = subst SendsNone (sym gives) (λ adds. absurd cc)
  none_by es f t s (StaysAt date asks early gives) = subst SendsNone (sym gives) (λ adds. refl)
  none_by es f t s (Refuses asks gives) = subst SendsNone (sym gives) (λ adds. refl)

  -- the new outputs of an endpoint, and that they are what it is sent for the first time
  abbrev pub AreNew : List Entry → List Entry → List Frame → Type 0
  AreNew es after sent = (new : List Item) × (outputs c after e ≡ outputs c es e ++ new) × (filter (is_first_output e) sent ≡ map (λ i. output c e i 32) new)

  new_by : (es : List Entry) (adds : Option Entry) (sends : List Frame) → ((x : Entry) → adds ≡ Some x → Follows c es x)
      → ((x : Entry) → adds ≡ Some x → sends ≡ frames_of c es x 32) → (adds ≡ None → filter (is_first_output e) sends ≡ []) → AreNew es (adds_to adds es) sends
  new_by es None sends follows own none = ([], sym (append-nil (outputs c es e)), none refl)
  new_by es (Some x) sends follows own none =
      (item_of c es (outputs c es e) x e, refl, ap (filter (is_first_output e)) (own x refl) ∙ entry_first es x (follows x refl))

  step_new : (es : List Entry) (a : Arrival) → AreNew es (entries_with c es a) (host_step c es a.frame a.reading).sends
  step_new es a =
      let s : HostStep = host_step c es a.frame a.reading in
      new_by es s.adds s.sends (step_follows c es a.frame a.reading) (sends_own c es a.frame a.reading)
      (none_by es a.frame (effective es a.reading) s (step_case c es a.frame a.reading))

  pub session_new : (es : List Entry) (xs : List Arrival) → AreNew es (entries_after c es xs) (frames_at c es xs)
  session_new es [] = ([], sym (append-nil (outputs c es e)), refl)
  session_new es (a ∷ xs) =
      let first = step_new es a in
      let rest = session_new (entries_with c es a) xs in
      let sends : List Frame = (host_step c es a.frame a.reading).sends in (
        first.0 ++ rest.0,
        rest.1 ∙ ap (λ (l : List Item). l ++ rest.0) first.1 ∙ append_assoc (outputs c es e) first.0 rest.0,
        filter-append (is_first_output e) sends (frames_at c (entries_with c es a) xs)
            ∙ (λ k. first.2 k ++ rest.2 k)
            ∙ sym (map-append (λ (i : Item). output c e i 32) first.0 rest.0),
      )
