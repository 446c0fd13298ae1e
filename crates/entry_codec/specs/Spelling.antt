-- The one spelling of an entry (docs/FORMATS.md, "Entries").
use Rattle.std.specs.Prelude.{◌≡◌, ℕ, Bool, List, [], ◌∷◌, ◌++◌, length, if◌then◌else◌}
use Rattle.std.specs.Int.{to_be_bytes, w16, w32, w64}
use Rattle.faim_base.specs.declared.ids.Imad.{Imad}
use Rattle.faim_base.specs.declared.judgement.Head.{Head}
use Rattle.faim_base.specs.declared.judgement.Verdict.{Verdict}
use Rattle.faim_base.specs.declared.judgement.Verdict.TheVariants.{Taken, Refused}
use Rattle.host_ledger.specs.declared.entries.Entry.{Entry}
use Rattle.host_ledger.specs.declared.entries.Entry.TheVariants.{Posted, Roll}

-- the date, the endpoint that sent it, the number
abbrev pub imad_bytes : Imad → List ℕ
imad_bytes i = to_be_bytes w32 i.date ++ (i.source ++ to_be_bytes w32 i.seq)

abbrev pub head_bytes : Head → List ℕ
head_bytes h = imad_bytes h.imad ++ (h.sender ++ (h.receiver ++ (h.code ++ (h.kind ∷ [] ++ (h.sub ∷ [] ++ to_be_bytes w64 h.amount)))))

-- 1, the destination and the number; or 2, the category and the code
abbrev pub verdict_bytes : Verdict → List ℕ
verdict_bytes (Taken dest seq) = 1 ∷ (dest ++ to_be_bytes w32 seq)
verdict_bytes (Refused r) = 2 ∷ (r.category ∷ [] ++ to_be_bytes w16 r.code)

abbrev pub flag : Bool → ℕ
flag b = if b then 1 else 0

-- a length and so many bytes
abbrev pub body_bytes : List ℕ → List ℕ
body_bytes body = to_be_bytes w16 (length body) ++ body

abbrev pub entry_bytes : Entry → List ℕ
entry_bytes (Posted head body resent moment verdict) = 80 ∷ (head_bytes head ++ (flag resent ∷ [] ++ (to_be_bytes w32 moment ++ (verdict_bytes verdict ++ body_bytes body))))
entry_bytes (Roll moment date) = 82 ∷ (to_be_bytes w32 moment ++ to_be_bytes w32 date)

-- what stood there stays in front
abbrev pub Keeps : List ℕ → List ℕ → Type 0
Keeps old new = (more : List ℕ) × (new ≡ old ++ more)
