-- What an image of a journal stands for (docs/FORMATS.md, "Journals").
use Rattle.std.specs.Prelude.{◌≡◌, ◌≢◌, ℕ, ◌+◌, ◌-◌, ◌≤◌, List, [], ◌∷◌, ◌++◌, length, codes, replicate, take, drop}
use Rattle.std.specs.List.{All}
use Rattle.std.specs.Int.{to_be_bytes, w32}
use Rattle.torn_journal.specs.Limits.{header_length, length_bytes, record_overhead, longest_payload, greatest_tail}

abbrev pub header : List ℕ
header = codes "FAIMJRN1" ++ replicate 8 0

-- the gate of a record that counts; every other byte is a closed gate
abbrev pub open_gate : ℕ
open_gate = 165

-- the closed gate that is written
abbrev pub closed_gate : ℕ
closed_gate = 0

-- an open gate, the length and the payload
abbrev pub record_of : List ℕ → List ℕ
record_of payload = open_gate ∷ to_be_bytes w32 (length payload) ++ payload

abbrev pub records_of : List (List ℕ) → List ℕ
records_of [] = []
records_of (p ∷ ps) = record_of p ++ records_of ps

-- 1 to 131,072 bytes
pub record IsPayload (payload : List ℕ) : Type 0 where
  pub some : 1 ≤ length payload
  pub most : length payload ≤ longest_payload

-- what is written after a gate: the length, the payload, and a closed gate
abbrev pub framed_of : List ℕ → List ℕ
framed_of payload = to_be_bytes w32 (length payload) ++ payload ++ closed_gate ∷ []

-- the payload between the length and the gate
abbrev pub payload_of : List ℕ → List ℕ
payload_of framed = take (length framed - record_overhead) (drop length_bytes framed)

-- a payload, framed
pub record IsFramed (framed : List ℕ) : Type 0 where
  pub is : framed ≡ framed_of (payload_of framed)
  pub payload : IsPayload (payload_of framed)

-- what comes up to the tail gate
abbrev pub front_of : List (List ℕ) → List ℕ
front_of payloads = header ++ records_of payloads

-- the place of the tail gate
abbrev pub gate_of : List (List ℕ) → ℕ
gate_of payloads = length (front_of payloads)

-- the place after the tail gate
abbrev pub tail_of : List (List ℕ) → ℕ
tail_of payloads = gate_of payloads + 1

-- the image begins with the header
abbrev pub HasHeader : List ℕ → Type 0
HasHeader image = take header_length image ≡ header

-- the header, the payloads after open gates, a gate that isn't open, and any bytes
pub record IsJournal (image : List ℕ) (payloads : List (List ℕ)) : Type 0 where
  pub gate : ℕ
  pub rest : List ℕ
  pub is : image ≡ front_of payloads ++ gate ∷ rest
  pub shut : gate ≢ open_gate
  pub each : All IsPayload payloads
  pub small : tail_of payloads ≤ greatest_tail
