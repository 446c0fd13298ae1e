-- Bytes that begin with the header are a journal of payloads that follow one another, or damaged.
use Rattle.std.proofs.Common.{◌≡◌, ◌≢◌, ◌⊎◌, inl, inr, ⊎_elim, ℕ, zero, suc, ◌<◌, ◌≤◌, List, [], ◌∷◌, ◌++◌, length, take, drop, get_or, refl, sym, ◌∙◌, ap, subst, arith, append_assoc, take-append-drop, length-take, length-drop}
use Rattle.std.proofs.lemmas.Bool.{cases_lt, cases_eq}
use Rattle.std.proofs.lemmas.List.{get_or_past}
use Rattle.std.proofs.lemmas.List.Elements.{All-nil, All-push, All-tail, All-take, All-drop, All-get_or}
use Rattle.std.proofs.lemmas.Nat.{be_bytes_4}
use Rattle.std.specs.Int.{to_be_bytes, from_be_bytes, w32}
use Rattle.std.specs.List.{All}
use Rattle.torn_journal.specs.Damage.{NoRecord, IsBadLength, IsRefused, all_but_last, IsDamaged, IsSound}
use Rattle.torn_journal.specs.Journal.{open_gate, record_of, front_of, gate_of, HasHeader, IsPayload}
use Rattle.torn_journal.specs.Limits.{header_length, length_bytes, longest_payload, greatest_tail}
use Rattle.torn_journal.specs.Visits.{AllFollow}
use Rattle.torn_journal.proofs.Fronts.{front_of-push, all_follow-push, all_but_last-push}

abbrev IsBytes : List ℕ → Type 0
IsBytes bytes = All (λ byte. byte < 256) bytes

byte_at : (bytes : List ℕ) → IsBytes bytes → (i : ℕ) → get_or bytes i 0 < 256
byte_at bytes each i = ⊎_elim
    (λ within. All-get_or (λ byte. byte < 256) bytes i 0 within each)
    (λ past. omega (arith, get_or_past bytes i 0 past))
    (cases_lt i (length bytes))

-- an open gate, a length that a payload may have, and as many bytes
module _ (more : List ℕ) (bytes : IsBytes more) (whole : length_bytes ≤ length more) (n : ℕ) (number : n ≡ from_be_bytes w32 (take length_bytes more)) (some : n ≢ 0) (most : n ≤ longest_payload) (there : n ≤ length (drop length_bytes more)) where
  abbrev payload : List ℕ
  payload = take n (drop length_bytes more)

  abbrev after : List ℕ
  after = drop n (drop length_bytes more)

  long : length payload ≡ n
  long = omega (arith, length-take n (drop length_bytes more), there)

  written : to_be_bytes w32 (length payload) ≡ take length_bytes more
  written =
      ap (to_be_bytes w32) long
      ∙ be_bytes_4 (take length_bytes more) n (omega (arith, length-take length_bytes more, whole)) (byte_at (take length_bytes more) (All-take (λ byte. byte < 256) length_bytes more bytes)) number

  pub is_record : open_gate ∷ more ≡ record_of payload ++ after
  is_record =
      ap (λ (l : List ℕ). open_gate ∷ l)
      (sym (take-append-drop length_bytes more)
      ∙ ap (λ (l : List ℕ). take length_bytes more ++ l) (sym (take-append-drop n (drop length_bytes more)))
      ∙ ap (λ (l : List ℕ). l ++ (payload ++ after)) (sym written)
      ∙ sym (append_assoc (to_be_bytes w32 (length payload)) payload after))

  pub sized : IsPayload payload
  sized = record { some = omega (arith, long, some); most = omega (arith, long, most) }

  pub fewer : length after < length (open_gate ∷ more)
  fewer = omega (arith, length-drop n (drop length_bytes more), length-drop length_bytes more)

  pub bytes_after : IsBytes after
  bytes_after = All-drop (λ byte. byte < 256) n (drop length_bytes more) (All-drop (λ byte. byte < 256) length_bytes more bytes)

module _ (follows : List (List ℕ) → List ℕ → Type 0) (decides : (payloads : List (List ℕ)) (payload : List ℕ) → follows payloads payload ⊎ (follows payloads payload → ⊥)) (image : List ℕ) where
  abbrev Judged : Type 0
  Judged = IsSound follows image ⊎ ((place : ℕ) × IsDamaged follows image place)

  -- the payloads read so far, and the bytes after them
  record Read (payloads : List (List ℕ)) (rest : List ℕ) : Type 0 where
    is : image ≡ front_of payloads ++ rest
    each : All IsPayload payloads
    followed : AllFollow follows payloads
    near : gate_of (all_but_last payloads) < greatest_tail
    bytes : IsBytes rest

  damaged_at : (payloads : List (List ℕ)) (rest : List ℕ) → Read payloads rest → (greatest_tail ≤ gate_of payloads) ⊎ (NoRecord rest ⊎ IsRefused follows payloads rest) → Judged
  damaged_at payloads rest read bad = inr (
    gate_of payloads,
    record {
      payloads = payloads;
      rest = rest;
      is = read.is;
      at = refl;
      each = read.each;
      followed = read.followed;
      near = read.near;
      bad = bad;
    },
  )

  read_on : (payloads : List (List ℕ)) (payload rest after : List ℕ) → Read payloads rest → gate_of payloads < greatest_tail → rest ≡ record_of payload ++ after → IsPayload payload → follows payloads payload → IsBytes after → Read (payloads ++ payload ∷ []) after
  read_on payloads payload rest after read near is sized follow bytes = record {
    is = read.is ∙ ap (λ (l : List ℕ). front_of payloads ++ l) is ∙ sym (front_of-push payloads payload after);
    each = All-push IsPayload payloads payload read.each sized;
    followed = all_follow-push follows payloads payload read.followed follow;
    near = subst (λ (l : List (List ℕ)). gate_of l < greatest_tail) (sym (all_but_last-push payloads payload)) near;
    bytes = bytes;
  }

  -- with the records after this one judged
  module _ (payloads : List (List ℕ)) (k : ℕ) (next : (payload after : List ℕ) → length after < k → Read (payloads ++ payload ∷ []) after → Judged) (below : gate_of payloads < greatest_tail) where
    -- a length after an open gate
    judged_length : (more : List ℕ) → length (open_gate ∷ more) ≤ k → Read payloads (open_gate ∷ more) → length_bytes ≤ length more → (n : ℕ) → n ≡ from_be_bytes w32 (take length_bytes more) → Judged
    judged_length more few read whole n number =
        let bad : IsBadLength (from_be_bytes w32 (take length_bytes more)) (drop length_bytes more) → Judged = λ wrong. damaged_at payloads (open_gate ∷ more) read (inr (inl (refl, inr wrong))) in
        let bytes = All-tail (λ byte. byte < 256) open_gate more read.bytes in
        ⊎_elim
        (λ none. bad (inl (sym number ∙ none)))
        (λ some. ⊎_elim
        (λ high. bad (inr (inl (omega (arith, high, number)))))
        (λ most. ⊎_elim
        (λ short. bad (inr (inr (omega (arith, short, number)))))
        (λ there.
        let is = is_record more bytes whole n number some most there in
        let sized' = sized more bytes whole n number some most there in
        let less = fewer more bytes whole n number some most there in
        ⊎_elim
        (λ follow. next (take n (drop length_bytes more)) (drop n (drop length_bytes more)) (omega (arith, less, few)) (read_on payloads (take n (drop length_bytes more)) (open_gate ∷ more) (drop n (drop length_bytes more)) read below is sized' follow (bytes_after more bytes whole n number some most there)))
        (λ refused. damaged_at payloads (open_gate ∷ more) read (inr (inr (take n (drop length_bytes more), drop n (drop length_bytes more), is, sized', refused))))
        (decides payloads (take n (drop length_bytes more))))
        (cases_lt (length (drop length_bytes more)) n))
        (cases_lt longest_payload n))
        (cases_eq n 0)

    judged_open : (more : List ℕ) → length (open_gate ∷ more) ≤ k → Read payloads (open_gate ∷ more) → Judged
    judged_open more few read = ⊎_elim
        (λ short. damaged_at payloads (open_gate ∷ more) read (inr (inl (refl, inl short))))
        (λ whole. judged_length more few read whole (from_be_bytes w32 (take length_bytes more)) refl)
        (cases_lt (length more) length_bytes)

    judged_here : (rest : List ℕ) → length rest ≤ k → Read payloads rest → Judged
    judged_here [] few read = damaged_at payloads [] read (inr (inl tt))
    judged_here (gate ∷ more) few read = ⊎_elim
        (λ opened. judged_open more few (subst (λ g. Read payloads (g ∷ more)) opened read))
        (λ shut. inl (payloads, record { gate = gate; rest = more; is = read.is; shut = shut; each = read.each; small = omega (arith, below) }, read.followed))
        (cases_eq gate open_gate)

  judged_at : (k : ℕ) (payloads : List (List ℕ)) (rest : List ℕ) → length rest ≤ k → Read payloads rest → ((payload after : List ℕ) → length after < k → Read (payloads ++ payload ∷ []) after → Judged) → Judged
  judged_at k payloads rest few read next = ⊎_elim
      (λ below. judged_here payloads k next below rest few read)
      (λ far. damaged_at payloads rest read (inl far))
      (cases_lt (gate_of payloads) greatest_tail)

  judged : (k : ℕ) (payloads : List (List ℕ)) (rest : List ℕ) → length rest ≤ k → Read payloads rest → Judged
  judged zero payloads rest few read = judged_at zero payloads rest few read (λ payload after less more. absurd (omega (arith, less)))
  judged (suc k) payloads rest few read = judged_at (suc k) payloads rest few read (λ payload after less more. judged k (payloads ++ payload ∷ []) after (omega (arith, less)) more)

  pub sound_or_damaged : IsBytes image → HasHeader image → Judged
  sound_or_damaged bytes begins =
      judged (length image) [] (drop header_length image) (omega (arith, length-drop header_length image))
      record {
        is = sym (take-append-drop header_length image) ∙ ap (λ (l : List ℕ). l ++ drop header_length image) begins;
        each = All-nil IsPayload;
        followed = tt;
        near = omega arith;
        bytes = All-drop (λ byte. byte < 256) header_length image bytes;
      }
