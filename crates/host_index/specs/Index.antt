-- What an index knows, the oldest first.
use Rattle.std.specs.Prelude.{◌≡◌, IsTrue, ℕ, ◌-◌, ◌==◌, ◌&&◌, not, Bool, true, List, [], ◌∷◌, ◌++◌, length, take, drop, map, filter, bytes_eq, Option}
use Rattle.std.specs.List.{find, list_all}
use Rattle.std.specs.Option.{option_map, option_to_list}
use Rattle.faim_base.specs.declared.ids.Imad.{Imad}
use Rattle.faim_base.specs.declared.ids.OutPos.{OutPos}
use Rattle.faim_base.specs.Ids.{is_up_to}

-- an identifier, and the place of the entry that posts it
pub record Posted : Type 0 where
  pub imad : Imad
  pub place : ℕ

-- an output: to whom, its position, and the place of the entry that gives it
pub record Output : Type 0 where
  pub dest : List ℕ
  pub at : OutPos
  pub place : ℕ

pub record Index : Type 0 where
  pub posted : List Posted
  pub outputs : List Output

-- the same date, source and number
abbrev pub same_imad : Imad → Imad → Bool
same_imad a b = (a.date == b.date) && (bytes_eq a.source b.source && (a.seq == b.seq))

-- the place of an identifier
abbrev pub place_of : Imad → List Posted → Option ℕ
place_of imad posted = option_map (λ p. p.place) (find (λ p. same_imad imad p.imad) posted)

-- what goes to an endpoint
abbrev pub outputs_to : List ℕ → List Output → List Output
outputs_to e outputs = filter (λ o. bytes_eq e o.dest) outputs

-- the output stands under this date
abbrev pub is_under : ℕ → Output → Bool
is_under date o = o.at.date == date

-- the output stands at a position or after it
abbrev pub is_from : OutPos → Output → Bool
is_from p o = is_up_to p o.at

-- the output stands before a position
abbrev pub is_before : OutPos → Output → Bool
is_before p o = not (is_from p o)

-- the position is above all that an endpoint has
abbrev pub is_above : List ℕ → OutPos → List Output → Bool
is_above e p outputs = list_all (is_before p) (outputs_to e outputs)

-- the outputs that one entry gives, each to an endpoint at a position
abbrev pub outputs_at : ℕ → List (List ℕ × OutPos) → List Output
outputs_at place ends = map (λ end. record { dest = end.0; at = end.1; place = place }) ends

-- each of these positions is above all that its endpoint has when it is added, one after another
abbrev pub are_above : ℕ → List (List ℕ × OutPos) → List Output → Bool
are_above place [] outputs = true
are_above place (end ∷ ends) outputs =
    is_above end.0 end.1 outputs && are_above place ends (outputs ++ record { dest = end.0; at = end.1; place = place } ∷ [])

-- each output stands before those after it
abbrev pub Rises : List Output → Type 0
Rises [] = Unit {0}
Rises (o ∷ outputs) = IsTrue (list_all (λ later. is_before later.at o) outputs) × Rises outputs

-- how many outputs a retrieval gives at most
abbrev pub retrieval_limit : ℕ
retrieval_limit = 64

-- what a retrieval gives: the first outputs of an endpoint at a position or after it
abbrev pub retrieved : List ℕ → OutPos → List Output → List Output
retrieved e p outputs = take retrieval_limit (filter (is_from p) (outputs_to e outputs))

-- the places of outputs
abbrev pub places_of : List Output → List ℕ
places_of outputs = map (λ o. o.place) outputs

-- the last n items, and those before them
abbrev pub last : {A : Type 0} → ℕ → List A → List A
last n xs = drop (length xs - n) xs

abbrev pub without_last : {A : Type 0} → ℕ → List A → List A
without_last n xs = take (length xs - n) xs

-- the index after an entry that posts a message and gives this output, if any
abbrev pub after_posting : Imad → Option (List ℕ × OutPos) → ℕ → Index → Index
after_posting imad to place i = record {
  posted = i.posted ++ record { imad = imad; place = place } ∷ [];
  outputs = i.outputs ++ outputs_at place (option_to_list to);
}

-- the index after an entry that ends a cycle and gives these outputs
abbrev pub after_roll : List (List ℕ × OutPos) → ℕ → Index → Index
after_roll ends place i = record { posted = i.posted; outputs = i.outputs ++ outputs_at place ends }

-- the last entry posts this identifier, and gives an output to this endpoint, or none
abbrev pub EndsInPosting : Imad → Option (List ℕ) → Index → Type 0
EndsInPosting imad dest i =
    (map (λ p. p.imad) (last 1 i.posted) ≡ imad ∷ []) × (map (λ o. o.dest) (last (length (option_to_list dest)) i.outputs) ≡ option_to_list dest)

-- the last entry gives an output to each of these endpoints in this order
abbrev pub EndsInRoll : List (List ℕ) → Index → Type 0
EndsInRoll dests i = map (λ o. o.dest) (last (length dests) i.outputs) ≡ dests

-- the index before its last entry, which posted a message and gave an output to this endpoint, or none
abbrev pub before_posting : Option (List ℕ) → Index → Index
before_posting dest i = record { posted = without_last 1 i.posted; outputs = without_last (length (option_to_list dest)) i.outputs }

-- the index before its last entry, which ended a cycle and gave an output to each of these endpoints
abbrev pub before_roll : List (List ℕ) → Index → Index
before_roll dests i = record { posted = i.posted; outputs = without_last (length dests) i.outputs }
