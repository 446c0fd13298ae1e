-- The item that the entry at a place gives an endpoint, and that entry.
use Rattle.std.specs.Option.{option_copied}
use Rattle.std.proofs.Common.{◌≡◌, Bor, ℕ, ◌==◌, Bool, true, false, cond, List, [], ◌∷◌, length, Option, Some, None, option_map, refl, sym, ap, ◌∙◌, subst}
use Rattle.std.specs.Prelude.{IsSome}
use Rattle.std.specs.List.{Contains, find}
use Rattle.std.proofs.lemmas.Bool.{eqb-true}
use Rattle.faim_message.specs.Spelling.{message_spelling}
use Rattle.host_ledger.specs.declared.config.Config.{Config}
use Rattle.host_ledger.specs.declared.entries.Entry.{Entry}
use Rattle.faim_model.specs.Deliveries.{output_message}
use Rattle.faim_model.specs.Frames.{output}
use Rattle.faim_model.specs.Items.{item_at, position_at}
use Rattle.faim_model.specs.Outputs.{Item, outputs}
use Rattle.faim_model.specs.Payloads.{output_payload, payload_of}
use Rattle.faim_model.specs.Turns.{entry_at}
use Rattle.faim_model.proofs.Members.{first_in, later_in}

-- what is found is a member that passes the test
find_there : (p : Item → Bool) (xs : List Item) (x : Item) → find p xs ≡ Some x → Contains xs x × (p x ≡ true)
find_there p [] x found = absurd cc
find_there p (y ∷ xs) x found = by_test (p y) refl found (find_there p xs x)
  where
    by_test : (b : Bool) → p y ≡ b → cond b (Some y) (find p xs) ≡ Some x → (find p xs ≡ Some x → Contains xs x × (p x ≡ true))
        → Contains (y ∷ xs) x × (p x ≡ true)
    by_test true passes found older =
        let same : y ≡ x = cc in
        (subst (λ (z : Item). Contains (y ∷ xs) z) same (first_in y xs), subst (λ (z : Item). p z ≡ true) same passes)
    by_test false fails found older =
        let later = older found in
        (later_in y x xs later.0, later.1)

-- what an endpoint is given at a place
pub record Gives (c : Config) (es : List Entry) (e : List ℕ) (place : ℕ) : Type 0 where
  pub item : Item
  pub found : item_at c es e place ≡ Some item
  pub there : Contains (outputs c es e) item
  pub stands : item.place ≡ place

gives_by : (c : Config) (es : List Entry) (e : List ℕ) (place : ℕ) (o : Option Item) → item_at c es e place ≡ o
    → IsSome (option_map (λ (i : Item). i.at) o) → Gives c es e place
gives_by c es e place None is some = absurd (let wrong : false ≡ true = some in cc)
gives_by c es e place (Some i) is some =
    let f = find_there (λ i. i.place == place) (outputs c es e) i is in
    record { item = i; found = is; there = f.0; stands = eqb-true i.place place f.1 }

pub gives : (c : Config) (es : List Entry) (e : List ℕ) (place : ℕ) → IsSome (position_at c es e place) → Gives c es e place
gives c es e place some = gives_by c es e place (item_at c es e place) refl some

pub position_is : (c : Config) (es : List Entry) (e : List ℕ) (place : ℕ) (g : Gives c es e place) → position_at c es e place ≡ Some g.item.at
position_is c es e place g = ap (λ (o : Option Item). option_map (λ (i : Item). i.at) o) g.found

pub payload_is : (c : Config) (es : List Entry) (e : List ℕ) (place mark : ℕ) (g : Gives c es e place)
    → output_payload c es e place mark ≡ message_spelling (output_message c.env e g.item mark)
payload_is c es e place mark g = ap (λ (o : Option Item). payload_of (option_map (λ (i : Item). output c e i mark) o)) g.found

-- an entry at a place is a member
pub entry_there : (es : List Entry) (place : ℕ) (x : Entry) → entry_at es place ≡ Some x → Contains es x
entry_there [] place x at = absurd cc
entry_there (y ∷ es) place x at = by_place (length es == place) at (entry_there es place x)
  where
    by_place : (b : Bool) → cond b (Some y) (entry_at es place) ≡ Some x → (entry_at es place ≡ Some x → Contains es x) → Contains (y ∷ es) x
    by_place true at older = let same : y ≡ x = cc in subst (λ (z : Entry). Contains (y ∷ es) z) same (first_in y es)
    by_place false at older = later_in y x es (older at)

pub is_some_at : {A : Type 0} (o : Option A) (x : A) → o ≡ Some x → IsSome o
is_some_at None x is = absurd cc
is_some_at (Some y) x is = refl

pub one_of_some : {A : Type 0} (o : Option A) → IsSome o → (x : A) × (o ≡ Some x)
one_of_some None some = absurd (let wrong : false ≡ true = some in cc)
one_of_some (Some x) some = (x, refl)

-- the entry at the place is the item's
pub entry_given : (c : Config) (es : List Entry) (e : List ℕ) (place : ℕ) (g : Gives c es e place) → entry_at es g.item.place ≡ Some g.item.entry
    → entry_at es place ≡ Some g.item.entry
entry_given c es e place g at = sym (ap (λ (n : ℕ). entry_at es n) g.stands) ∙ at

pub some_copied : {A : Type 0} (o : Option (Bor A)) (x : A) → option_copied o ≡ Some x → IsSome o
some_copied None x is = absurd cc
some_copied (Some y) x is = refl

pub same_in_some : {A : Type 0} (x y : A) → Some x ≡ Some y → x ≡ y
same_in_some x y same = cc
