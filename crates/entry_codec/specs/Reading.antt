-- Reading from the front: a value and the bytes after it, or none.
use Rattle.std.specs.Prelude.{◌≡◌, ℕ, ◌==◌, ◌&&◌, Bool, true, false, List, [], ◌∷◌, length, take, drop, Option, Some, None, Result, Ok, Err, nat_lt, nat_le, if◌then◌else◌}
use Rattle.std.specs.Int.{Width, w16, w32, w64, byte_len, from_be_bytes}
use Rattle.std.specs.List.{list_all}
use Rattle.faim_base.specs.Limits.{longest_message}
use Rattle.faim_base.specs.Numbers.{is_seq, is_amount, is_day, is_moment, is_type}
use Rattle.faim_base.specs.Refusals.{is_recorded}
use Rattle.faim_base.specs.Text.{is_text_byte, is_endpoint, is_aba}
use Rattle.faim_base.specs.declared.ids.Imad.{Imad}
use Rattle.faim_base.specs.declared.judgement.Head.{Head}
use Rattle.faim_base.specs.declared.judgement.Verdict.{Verdict}
use Rattle.faim_base.specs.declared.judgement.Verdict.TheVariants.{Taken, Refused}
use Rattle.host_ledger.specs.declared.entries.Entry.{Entry}
use Rattle.host_ledger.specs.declared.entries.Entry.TheVariants.{Posted, Roll}
use Rattle.entry_codec.specs.declared.fault.CodecFault.{CodecFault}
use Rattle.entry_codec.specs.declared.fault.CodecFault.TheVariants.{Damaged, NoMemory}

-- reading gives none, unless memory ran out
abbrev pub Fails : {X : Type 0} → CodecFault → Option X → Type 0
Fails NoMemory read = Unit {0}
Fails Damaged read = read ≡ None

-- what was answered, with the bytes that were left, is what reading gives
abbrev pub Gives : {X : Type 0} → Result X CodecFault → Option (X × List ℕ) → List ℕ → Type 0
Gives (Ok x) read rest = read ≡ Some (x, rest)
Gives (Err e) read rest = Fails e read

infixl 10 ◌>>=◌
abbrev pub ◌>>=◌ : {A B : Type 0} → Option A → (A → Option B) → Option B
(Some x) >>= f = f x
None >>= f = None

-- the values that pass a test
abbrev pub tested : {A : Type 0} → (A → Bool) → Option (A × List ℕ) → Option (A × List ℕ)
tested test read = do
  x ← read
  if test x.0 then Some x else None

-- so many bytes
abbrev pub piece_at : ℕ → List ℕ → Option (List ℕ × List ℕ)
piece_at n bytes = if nat_lt (length bytes) n then None else Some (take n bytes, drop n bytes)

abbrev pub number_at : Width → List ℕ → Option (ℕ × List ℕ)
number_at w bytes = do
  x ← piece_at (byte_len w) bytes
  Some (from_be_bytes w x.0, x.1)

abbrev pub byte_at : List ℕ → Option (ℕ × List ℕ)
byte_at [] = None
byte_at (b ∷ rest) = Some (b, rest)

unfoldable pub date_at : List ℕ → Option (ℕ × List ℕ)
date_at bytes = tested is_day (number_at w32 bytes)

unfoldable pub moment_at : List ℕ → Option (ℕ × List ℕ)
moment_at bytes = tested is_moment (number_at w32 bytes)

unfoldable pub seq_at : List ℕ → Option (ℕ × List ℕ)
seq_at bytes = tested is_seq (number_at w32 bytes)

unfoldable pub cents_at : List ℕ → Option (ℕ × List ℕ)
cents_at bytes = tested is_amount (number_at w64 bytes)

unfoldable pub endpoint_at : List ℕ → Option (List ℕ × List ℕ)
endpoint_at bytes = tested is_endpoint (piece_at 8 bytes)

unfoldable pub aba_at : List ℕ → Option (List ℕ × List ℕ)
aba_at bytes = tested is_aba (piece_at 9 bytes)

unfoldable pub code_at : List ℕ → Option (List ℕ × List ℕ)
code_at bytes = tested (list_all is_text_byte) (piece_at 3 bytes)

-- a type or a subtype
unfoldable pub kind_at : List ℕ → Option (ℕ × List ℕ)
kind_at bytes = tested is_type (byte_at bytes)

unfoldable pub flag_at : List ℕ → Option (Bool × List ℕ)
flag_at bytes = do
  x ← byte_at bytes
  if x.0 == 0 then Some (false, x.1) else (if x.0 == 1 then Some (true, x.1) else None)

unfoldable pub imad_at : List ℕ → Option (Imad × List ℕ)
imad_at bytes = do
  d ← date_at bytes
  e ← endpoint_at d.1
  n ← seq_at e.1
  Some (record { date = d.0; source = e.0; seq = n.0 }, n.1)

unfoldable pub head_at : List ℕ → Option (Head × List ℕ)
head_at bytes = do
  i ← imad_at bytes
  s ← aba_at i.1
  r ← aba_at s.1
  c ← code_at r.1
  k ← kind_at c.1
  u ← kind_at k.1
  a ← cents_at u.1
  Some (record { imad = i.0; sender = s.0; receiver = r.0; code = c.0; kind = k.0; sub = u.0; amount = a.0 }, a.1)

unfoldable pub taken_at : List ℕ → Option (Verdict × List ℕ)
taken_at bytes = do
  e ← endpoint_at bytes
  n ← seq_at e.1
  Some (Taken e.0 n.0, n.1)

unfoldable pub refused_at : List ℕ → Option (Verdict × List ℕ)
refused_at bytes = do
  c ← byte_at bytes
  n ← number_at w16 c.1
  if is_recorded (record { category = c.0; code = n.0 }) then Some (Refused (record { category = c.0; code = n.0 }), n.1) else None

unfoldable pub verdict_at : List ℕ → Option (Verdict × List ℕ)
verdict_at bytes = do
  x ← byte_at bytes
  if x.0 == 1 then taken_at x.1 else (if x.0 == 2 then refused_at x.1 else None)

unfoldable pub body_at : List ℕ → Option (List ℕ × List ℕ)
body_at bytes = do
  n ← tested (λ n. nat_le 1 n && nat_le n longest_message) (number_at w16 bytes)
  piece_at n.0 n.1

unfoldable pub posted_at : List ℕ → Option (Entry × List ℕ)
posted_at bytes = do
  h ← head_at bytes
  f ← flag_at h.1
  m ← moment_at f.1
  v ← verdict_at m.1
  b ← body_at v.1
  Some (Posted h.0 b.0 f.0 m.0 v.0, b.1)

unfoldable pub roll_at : List ℕ → Option (Entry × List ℕ)
roll_at bytes = do
  m ← moment_at bytes
  d ← date_at m.1
  Some (Roll m.0 d.0, d.1)

unfoldable pub entry_at : List ℕ → Option (Entry × List ℕ)
entry_at bytes = do
  x ← byte_at bytes
  if x.0 == 80 then posted_at x.1 else (if x.0 == 82 then roll_at x.1 else None)
