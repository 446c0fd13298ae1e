-- Where an image isn't a journal any more, and which images are journals throughout (docs/FORMATS.md, "Journals").
use Rattle.std.specs.Prelude.{◌≡◌, ◌⊎◌, ℕ, ◌<◌, ◌≤◌, List, [], ◌∷◌, ◌++◌, length, take, drop}
use Rattle.std.specs.List.{All}
use Rattle.std.specs.Int.{from_be_bytes, w32}
use Rattle.torn_journal.specs.Journal.{open_gate, record_of, front_of, gate_of, IsPayload, IsJournal}
use Rattle.torn_journal.specs.Limits.{length_bytes, longest_payload, greatest_tail}
use Rattle.torn_journal.specs.Visits.{AllFollow}

-- a length of 0, or over 131,072, or past the end of what comes after it
abbrev pub IsBadLength : ℕ → List ℕ → Type 0
IsBadLength n rest = (n ≡ 0) ⊎ ((longest_payload < n) ⊎ (length rest < n))

-- the end of the image, or an open gate without a whole length or with a bad one
abbrev pub NoRecord : List ℕ → Type 0
NoRecord [] = Unit {0}
NoRecord (gate ∷ more) = (gate ≡ open_gate) × ((length more < length_bytes) ⊎ IsBadLength (from_be_bytes w32 (take length_bytes more)) (drop length_bytes more))

-- a record whose payload doesn't follow those before it
abbrev pub IsRefused : (List (List ℕ) → List ℕ → Type 0) → List (List ℕ) → List ℕ → Type 0
IsRefused follows payloads rest = (payload more : List ℕ) × (rest ≡ record_of payload ++ more) × IsPayload payload × ¬ (follows payloads payload)

-- the payloads without the last
abbrev pub all_but_last : List (List ℕ) → List (List ℕ)
all_but_last [] = []
all_but_last (p ∷ []) = []
all_but_last (p ∷ (q ∷ ps)) = p ∷ all_but_last (q ∷ ps)

-- up to the gate at this place the image is a journal, and there it isn't any more
pub record IsDamaged (follows : List (List ℕ) → List ℕ → Type 0) (image : List ℕ) (place : ℕ) : Type 0 where
  pub payloads : List (List ℕ)
  pub rest : List ℕ
  pub is : image ≡ front_of payloads ++ rest
  pub at : place ≡ gate_of payloads
  pub each : All IsPayload payloads
  pub followed : AllFollow follows payloads
  -- each gate before lies below the limit; the last of them is the highest
  pub near : gate_of (all_but_last payloads) < greatest_tail
  pub bad : (greatest_tail ≤ place) ⊎ (NoRecord rest ⊎ IsRefused follows payloads rest)

-- the image is a journal of payloads that follow one another
abbrev pub IsSound : (List (List ℕ) → List ℕ → Type 0) → List ℕ → Type 0
IsSound follows image = (payloads : List (List ℕ)) × IsJournal image payloads × AllFollow follows payloads
