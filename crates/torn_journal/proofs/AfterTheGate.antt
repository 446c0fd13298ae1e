-- Images of a journal while a record is written after its tail gate.
use Rattle.std.proofs.Common.{◌≡◌, ◌≢◌, ◌⊎◌, inl, inr, ℕ, ◌+◌, ◌<◌, ◌≤◌, List, [], ◌∷◌, ◌++◌, length, take, drop, get_or, sym, ◌∙◌, ap, refl, append_assoc, arith, take-append-drop, length-append}
use Rattle.std.proofs.lemmas.List.{take_at, drop_at, drop_more}
use Rattle.std.proofs.lemmas.Bool.{cases_eq}
use Rattle.std.specs.Int.{to_be_bytes, w32}
use Rattle.std.specs.List.{All}
use Rattle.site_core.specs.Image.{put, Torn}
use Rattle.site_core.proofs.Images.{same_part, same_front, put_within}
use Rattle.torn_journal.specs.Journal.{open_gate, closed_gate, framed_of, front_of, tail_of, IsPayload, IsJournal}
use Rattle.torn_journal.specs.Limits.{greatest_tail}
use Rattle.torn_journal.proofs.Fronts.{front_of-push, tail_of-push}

-- a gate after the front, and then anything
abbrev pub HasGate : List ℕ → ℕ → List ℕ → Type 0
HasGate front gate image = (rest : List ℕ) × (image ≡ front ++ gate ∷ rest)

-- a gate after the front, and then the record
abbrev pub HasRecordAt : List ℕ → ℕ → List ℕ → List ℕ → Type 0
HasRecordAt front gate framed image = (rest : List ℕ) × (image ≡ front ++ gate ∷ (framed ++ rest))

-- some gate after the front, and then the record
abbrev pub HasRecord : List ℕ → List ℕ → List ℕ → Type 0
HasRecord front framed image = (gate : ℕ) × (rest : List ℕ) × (image ≡ front ++ gate ∷ (framed ++ rest))

module _ (front : List ℕ) (gate : ℕ) (rest : List ℕ) where
  length_gate : length (front ++ gate ∷ rest) ≡ length front + 1 + length rest
  length_gate = omega (arith, length-append front (gate ∷ rest))

  split : front ++ gate ∷ rest ≡ (front ++ gate ∷ []) ++ rest
  split = sym (append_assoc front (gate ∷ []) rest)

  -- what comes up to the gate, and it
  front_gate : take (length front + 1) (front ++ gate ∷ rest) ≡ front ++ gate ∷ []
  front_gate = ap (λ (l : List ℕ). take (length front + 1) l) split ∙ take_at (front ++ gate ∷ []) rest (length front + 1) (omega (arith, length-append front (gate ∷ [])))

  -- a write after the gate that a stop cuts short
  pub torn_after : (n firm : ℕ) (image : List ℕ) → length front + 1 ≤ firm → Torn (length front + 1) n firm (front ++ gate ∷ rest) image → HasGate front gate image
  torn_after n firm image le torn =
      let long = torn.long in
      let same : take (length front + 1) image ≡ take (length front + 1) (front ++ gate ∷ rest) =
      same_front image (front ++ gate ∷ rest) (length front + 1) (omega arith) (omega (arith, length_gate)) (λ k lt. torn.same k (omega arith) (inl lt)) in
      (drop (length front + 1) image, sym (take-append-drop (length front + 1) image) ∙ ap (λ (l : List ℕ). l ++ drop (length front + 1) image) (same ∙ front_gate) ∙ append_assoc front (gate ∷ []) (drop (length front + 1) image))

  -- a write after the gate
  pub written_after : (framed : List ℕ) → 0 < length framed → HasRecordAt front gate framed (put 0 (front ++ gate ∷ rest) (length front + 1) framed)
  written_after framed some =
      let more = drop (length front + 1 + length framed) (front ++ gate ∷ rest) in
      (more, put_within 0 (front ++ gate ∷ rest) (length front + 1) framed some (omega (arith, length_gate)) ∙ ap (λ (l : List ℕ). l ++ framed ++ more) front_gate ∙ append_assoc (front ++ gate ∷ []) framed more ∙ append_assoc front (gate ∷ []) (framed ++ more))

module _ (front framed rest : List ℕ) (gate : ℕ) where
  length_record : length (front ++ gate ∷ (framed ++ rest)) ≡ length front + 1 + length framed + length rest
  length_record = omega (arith, length-append front (gate ∷ (framed ++ rest)), length-append framed rest)

  after : drop (length front + 1) (front ++ gate ∷ (framed ++ rest)) ≡ framed ++ rest
  after =
      ap (λ (l : List ℕ). drop (length front + 1) l) (split front gate (framed ++ rest))
      ∙ drop_at (front ++ gate ∷ []) (framed ++ rest) (length front + 1) (omega (arith, length-append front (gate ∷ [])))

  before : take (length front) (front ++ gate ∷ (framed ++ rest)) ≡ front
  before = take_at front (gate ∷ (framed ++ rest)) (length front) refl

  -- the gate's write, cut short by a stop
  pub torn_gate : (image : List ℕ) → Torn (length front) 1 (length (front ++ gate ∷ (framed ++ rest))) (front ++ gate ∷ (framed ++ rest)) image → HasRecord front framed image
  torn_gate image torn =
      let long = torn.long in
      let size = length_record in
      let gate' = get_or image (length front) 0 in
      let more = drop (length framed) (drop (length front + 1) image) in
      let first : take (length front) image ≡ front =
      same_front image (front ++ gate ∷ (framed ++ rest)) (length front) (omega arith) (omega arith) (λ k lt. torn.same k (omega arith) (inl lt)) ∙ before in
      let part : take (length framed) (drop (length front + 1) image) ≡ framed =
      same_part image (front ++ gate ∷ (framed ++ rest)) (length front + 1) (length framed) (omega arith) (omega arith) (λ k le lt. torn.same k (omega arith) (inr le))
      ∙ ap (λ (l : List ℕ). take (length framed) l) after
      ∙ take_at framed rest (length framed) refl in
      let last : drop (length front + 1) image ≡ framed ++ more =
      sym (take-append-drop (length framed) (drop (length front + 1) image)) ∙ ap (λ (l : List ℕ). l ++ more) part in (
        gate',
        more,
        sym (take-append-drop (length front) image)
            ∙ ap (λ (l : List ℕ). l ++ drop (length front) image) first
            ∙ ap (λ (l : List ℕ). front ++ l) (drop_more image (length front) 0 (omega arith) ∙ ap (λ (l : List ℕ). gate' ∷ l) last),
      )

  -- the gate's write
  pub written_gate : (opened : ℕ) → put 0 (front ++ gate ∷ (framed ++ rest)) (length front) (opened ∷ []) ≡ front ++ opened ∷ (framed ++ rest)
  written_gate opened =
      let size = length_record in
      put_within 0 (front ++ gate ∷ (framed ++ rest)) (length front) (opened ∷ []) (omega arith) (omega arith)
      ∙ ap (λ (l : List ℕ). l ++ (opened ∷ []) ++ drop (length front + 1) (front ++ gate ∷ (framed ++ rest))) before
      ∙ ap (λ (l : List ℕ). front ++ (opened ∷ []) ++ l) after
      ∙ append_assoc front (opened ∷ []) (framed ++ rest)

-- a shut gate after the payloads
pub shut_gate : (payloads : List (List ℕ)) (gate : ℕ) (image : List ℕ) → gate ≢ open_gate → All IsPayload payloads → tail_of payloads ≤ greatest_tail → HasGate (front_of payloads) gate image → IsJournal image payloads
shut_gate payloads gate image shut each small has = record { gate = gate; rest = has.0; is = has.1; shut = shut; each = each; small = small }

regroup : (payloads : List (List ℕ)) (payload rest : List ℕ) → front_of payloads ++ open_gate ∷ (framed_of payload ++ rest) ≡ front_of (payloads ++ payload ∷ []) ++ closed_gate ∷ rest
regroup payloads payload rest =
    ap (λ (l : List ℕ). front_of payloads ++ open_gate ∷ l) (append_assoc (to_be_bytes w32 (length payload) ++ payload) (closed_gate ∷ []) rest)
    ∙ sym (front_of-push payloads payload (closed_gate ∷ rest))

-- an open gate and the record
pub opened_gate : (payloads : List (List ℕ)) (payload image : List ℕ) → All IsPayload (payloads ++ payload ∷ []) → tail_of (payloads ++ payload ∷ []) ≤ greatest_tail → HasRecordAt (front_of payloads) open_gate (framed_of payload) image → IsJournal image (payloads ++ payload ∷ [])
opened_gate payloads payload image each small has = record {
  gate = closed_gate;
  rest = has.0;
  is = has.1 ∙ regroup payloads payload has.0;
  shut = omega arith;
  each = each;
  small = small;
}

-- with the record after some gate the image stands for the payloads, or for one more
pub some_gate : (payloads : List (List ℕ)) (payload image : List ℕ) → All IsPayload payloads → All IsPayload (payloads ++ payload ∷ []) → tail_of (payloads ++ payload ∷ []) ≤ greatest_tail → HasRecord (front_of payloads) (framed_of payload) image → IsJournal image payloads ⊎ IsJournal image (payloads ++ payload ∷ [])
some_gate payloads payload image each more small has = elim (cases_eq has.0 open_gate) [
  | inl open_now ↦ inr (opened_gate payloads payload image more small (has.1, has.2 ∙ ap (λ gate. front_of payloads ++ gate ∷ (framed_of payload ++ has.1)) open_now))
  | inr shut ↦ inl (shut_gate payloads has.0 image shut each (omega (arith, small, tail_of-push payloads payload)) (framed_of payload ++ has.1, has.2))
]
