-- The one spelling of a bank's opening, and that of its entries (docs/FORMATS.md, "Entries").
use Rattle.std.specs.Prelude.{ℕ, List, [], ◌∷◌, ◌++◌, Option, Some, None}
use Rattle.std.specs.Int.{to_be_bytes, w32}
use Rattle.faim_base.specs.declared.ids.Imad.{Imad}
use Rattle.faim_base.specs.declared.ids.OutPos.{OutPos}
use Rattle.bank_books.specs.declared.entries.BankEntry.{BankEntry}
use Rattle.bank_books.specs.declared.entries.BankEntry.TheVariants.{Drafted, Answered, Received}
use Rattle.bank_books.specs.declared.entries.BankOpening.{BankOpening}
use Rattle.entry_codec.specs.Spelling.{verdict_bytes, body_bytes}

-- B, the endpoint, the code, the date
abbrev pub bank_opening_bytes : BankOpening → List ℕ
bank_opening_bytes o = 66 ∷ (o.endpoint ++ (o.env ∷ [] ++ to_be_bytes w32 o.date))

-- the date and the number
abbrev pub position_bytes : OutPos → List ℕ
position_bytes p = to_be_bytes w32 p.date ++ to_be_bytes w32 p.seq

-- an IMAD's date and number; its source isn't spelled
abbrev pub numbered_bytes : Imad → List ℕ
numbered_bytes i = position_bytes (record { date = i.date; seq = i.seq })

-- 1 and the date that is next; or 0
abbrev pub next_bytes : Option ℕ → List ℕ
next_bytes (Some date) = 1 ∷ to_be_bytes w32 date
next_bytes None = 0 ∷ []

-- D, the number and the text; A, the number and the verdict; or I, the position, the next date and the text
abbrev pub bank_entry_bytes : BankEntry → List ℕ
bank_entry_bytes (Drafted imad text) = 68 ∷ (numbered_bytes imad ++ body_bytes text)
bank_entry_bytes (Answered imad verdict) = 65 ∷ (numbered_bytes imad ++ verdict_bytes verdict)
bank_entry_bytes (Received at text next) = 73 ∷ (position_bytes at ++ (next_bytes next ++ body_bytes text))
