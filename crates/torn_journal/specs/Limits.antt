-- The limits of a journal (docs/FORMATS.md, "Journals").
use Rattle.std.specs.Prelude.{ℕ, ◌+◌, ◌^◌}

-- bytes of the header, with which each image begins
abbrev pub header_length : ℕ
header_length = 16

-- bytes in which the length of a payload is written
abbrev pub length_bytes : ℕ
length_bytes = 4

-- bytes of a record beside its payload: a gate and the length
abbrev pub record_overhead : ℕ
record_overhead = 5

-- the most bytes that a payload may have
abbrev pub longest_payload : ℕ
longest_payload = 131_072

-- the tail of a journal without payloads: the place after the header and one gate
abbrev pub least_tail : ℕ
least_tail = header_length + 1

-- the tail that no journal passes; each gate that counts lies below this place
abbrev pub greatest_tail : ℕ
greatest_tail = 2 ^ 30
