-- Reading a bank's opening and its entries from the front: a value and the bytes after it, or none.
use Rattle.std.specs.Prelude.{ℕ, ◌==◌, List, Option, Some, None, if◌then◌else◌}
use Rattle.faim_base.specs.declared.ids.Imad.{Imad}
use Rattle.faim_base.specs.declared.ids.OutPos.{OutPos}
use Rattle.bank_books.specs.declared.entries.BankEntry.{BankEntry}
use Rattle.bank_books.specs.declared.entries.BankEntry.TheVariants.{Drafted, Answered, Received}
use Rattle.bank_books.specs.declared.entries.BankOpening.{BankOpening}
use Rattle.entry_codec.specs.Reading.{◌>>=◌, byte_at, date_at, seq_at, endpoint_at, flag_at, verdict_at, body_at}

-- what stands after the B
unfoldable pub bank_fields_at : List ℕ → Option (BankOpening × List ℕ)
bank_fields_at bytes = do
  e ← endpoint_at bytes
  c ← byte_at e.1
  d ← date_at c.1
  Some (record { endpoint = e.0; env = c.0; date = d.0 }, d.1)

-- what an opening's bytes hold, sound or not
unfoldable pub bank_opening_at : List ℕ → Option (BankOpening × List ℕ)
bank_opening_at bytes = do
  x ← byte_at bytes
  if x.0 == 66 then bank_fields_at x.1 else None

unfoldable pub position_at : List ℕ → Option (OutPos × List ℕ)
position_at bytes = do
  d ← date_at bytes
  n ← seq_at d.1
  Some (record { date = d.0; seq = n.0 }, n.1)

-- the IMAD of this source
unfoldable pub numbered_at : List ℕ → List ℕ → Option (Imad × List ℕ)
numbered_at source bytes = do
  p ← position_at bytes
  Some (record { date = p.0.date; source = source; seq = p.0.seq }, p.1)

-- the date after a flag that is set
abbrev pub named_date_at : List ℕ → Option (Option ℕ × List ℕ)
named_date_at bytes = do
  d ← date_at bytes
  Some (Some d.0, d.1)

unfoldable pub next_at : List ℕ → Option (Option ℕ × List ℕ)
next_at bytes = do
  f ← flag_at bytes
  if f.0 then named_date_at f.1 else Some (None, f.1)

unfoldable pub drafted_at : List ℕ → List ℕ → Option (BankEntry × List ℕ)
drafted_at source bytes = do
  i ← numbered_at source bytes
  t ← body_at i.1
  Some (Drafted i.0 t.0, t.1)

unfoldable pub answered_at : List ℕ → List ℕ → Option (BankEntry × List ℕ)
answered_at source bytes = do
  i ← numbered_at source bytes
  v ← verdict_at i.1
  Some (Answered i.0 v.0, v.1)

unfoldable pub received_at : List ℕ → Option (BankEntry × List ℕ)
received_at bytes = do
  p ← position_at bytes
  n ← next_at p.1
  t ← body_at n.1
  Some (Received p.0 t.0 n.0, t.1)

-- an entry of the bank whose endpoint is this source
unfoldable pub bank_entry_at : List ℕ → List ℕ → Option (BankEntry × List ℕ)
bank_entry_at source bytes = do
  x ← byte_at bytes
  if x.0 == 68 then drafted_at source x.1 else (if x.0 == 65 then answered_at source x.1 else (if x.0 == 73 then received_at x.1 else None))
