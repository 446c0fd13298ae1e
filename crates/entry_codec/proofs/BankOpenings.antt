-- Whole openings of banks, read exactly.
use Rattle.std.proofs.Common.{◌≡◌, ℕ, suc, ◌<◌, ◌==◌, List, [], ◌∷◌, ◌++◌, length, Option, Some, ◌∙◌, ap, subst, append_assoc}
use Rattle.std.specs.Int.{w32, to_be_bytes}
use Rattle.faim_base.specs.Numbers.{IsDay}
use Rattle.faim_base.specs.Ranges.{IsEndpoint}
use Rattle.bank_books.specs.Openings.{IsBankOpening}
use Rattle.bank_books.specs.declared.entries.BankOpening.{BankOpening}
use Rattle.entry_codec.specs.declared.fault.CodecFault.{CodecFault}
use Rattle.entry_codec.specs.declared.fault.CodecFault.TheVariants as faults
use Rattle.entry_codec.specs.BankReading.{bank_fields_at, bank_opening_at}
use Rattle.entry_codec.specs.BankSpelling.{bank_opening_bytes}
use Rattle.entry_codec.specs.Reading.{Fails, ◌>>=◌, byte_at, date_at, endpoint_at}
use Rattle.entry_codec.proofs.Codecs.{IsBytes, Takes, then_takes, lettered, Reads, some_is, chosen, step, step_again, byte_reads}
use Rattle.entry_codec.proofs.Configs.{env_small}
use Rattle.entry_codec.proofs.Fronts.{one_front}
use Rattle.entry_codec.proofs.Pieces.{date_reads, endpoint_reads}
use Rattle.entry_codec.proofs.Wholes.{found_whole, only_whole, not_damaged_whole}

abbrev one : ℕ → List ℕ
one b = b ∷ []

abbrev piece : List ℕ → List ℕ
piece p = p

abbrev number : ℕ → List ℕ
number n = to_be_bytes w32 n

-- an opening that has a spelling, sound or not
record IsSpelled (o : BankOpening) : Type 0 where
  endpoint : IsEndpoint o.endpoint
  env : o.env < 256
  date : IsDay o.date

-- a sound opening has a spelling
sound_spelled : (o : BankOpening) → IsBankOpening o → IsSpelled o
sound_spelled o sound = record { endpoint = sound.endpoint; env = env_small o.env sound.env; date = sound.date }

abbrev made : List ℕ → ℕ → ℕ → BankOpening
made e c d = record { endpoint = e; env = c; date = d }

abbrev f2 : List ℕ → ℕ → ℕ × List ℕ → Option (BankOpening × List ℕ)
f2 e c d = Some (made e c d.0, d.1)

abbrev f1 : List ℕ → ℕ × List ℕ → Option (BankOpening × List ℕ)
f1 e c = date_at c.1 >>= f2 e c.0

abbrev f0 : List ℕ × List ℕ → Option (BankOpening × List ℕ)
f0 e = byte_at e.1 >>= f1 e.0

-- what stands after the letter
abbrev fields_bytes : BankOpening → List ℕ
fields_bytes o = o.endpoint ++ (one o.env ++ number o.date)

fields_takes : (bytes : List ℕ) (x : BankOpening × List ℕ) → IsBytes bytes → bank_fields_at bytes ≡ Some x → Takes bytes (fields_bytes x.0) x.1 × IsSpelled x.0
unfolding bank_fields_at
fields_takes bytes x fits same =
    let e = step piece IsEndpoint endpoint_at endpoint_reads f0 bytes x fits same in
    let c = step one (λ n. n < 256) byte_at byte_reads (f1 e.0.0) e.0.1 x e.1.fits e.3 in
    let d = step number IsDay date_at date_reads (f2 e.0.0 c.0.0) c.0.1 x c.1.fits c.3 in
    let t1 = then_takes e.0.1 (one c.0.0) c.0.1 (number d.0.0) d.0.1 c.1 d.1 in
    let t0 = then_takes bytes e.0.0 e.0.1 (one c.0.0 ++ number d.0.0) d.0.1 e.1 t1 in
    subst (λ (y : BankOpening × List ℕ). Takes bytes (fields_bytes y.0) y.1 × IsSpelled y.0) (some_is (made e.0.0 c.0.0 d.0.0, d.0.1) x d.3)
    (t0, record { endpoint = e.2; env = c.2; date = d.2 })

fields_again : (o : BankOpening) (rest : List ℕ) → IsSpelled o → bank_fields_at (fields_bytes o ++ rest) ≡ Some (o, rest)
unfolding bank_fields_at
fields_again o rest fit =
    ap bank_fields_at (append_assoc o.endpoint (one o.env ++ number o.date) rest)
    ∙ step_again piece IsEndpoint endpoint_at endpoint_reads f0 o.endpoint (one o.env ++ (number o.date ++ rest)) fit.endpoint
    ∙ step_again one (λ n. n < 256) byte_at byte_reads (f1 o.endpoint) o.env (number o.date ++ rest) fit.env
    ∙ step_again number IsDay date_at date_reads (f2 o.endpoint o.env) o.date rest fit.date

opening_takes : (bytes : List ℕ) (x : BankOpening × List ℕ) → IsBytes bytes → bank_opening_at bytes ≡ Some x → Takes bytes (bank_opening_bytes x.0) x.1 × IsSpelled x.0
unfolding bank_opening_at
opening_takes [] x fits e = absurd cc
opening_takes (b ∷ bytes) x fits e =
    let g = chosen (b == 66) (bank_fields_at bytes) x e in
    let t = fields_takes bytes x (λ i. fits (suc i)) g.1 in
    (lettered 66 b bytes (fields_bytes x.0) x.1 g.0 t.0, t.1)

opening_again : (o : BankOpening) (rest : List ℕ) → IsSpelled o → bank_opening_at (bank_opening_bytes o ++ rest) ≡ Some (o, rest)
unfolding bank_opening_at
opening_again o rest fit = fields_again o rest fit

-- each spelling and what follows it is read as its opening
opening_reads : Reads bank_opening_bytes IsSpelled bank_opening_at
opening_reads = record { takes = opening_takes; again = opening_again }

-- no spelling begins another
pub one_opening : (a b : BankOpening) (x y : List ℕ) → IsBankOpening a → IsBankOpening b → bank_opening_bytes a ++ x ≡ bank_opening_bytes b ++ y → (a ≡ b) × (x ≡ y)
one_opening a b x y fa fb same = one_front bank_opening_bytes IsSpelled bank_opening_at opening_again a b x y (sound_spelled a fa) (sound_spelled b fb) same

pub found : (bytes : List ℕ) (o : BankOpening) (rest : List ℕ) → IsBytes bytes → bank_opening_at bytes ≡ Some (o, rest) → length rest ≡ 0 → bytes ≡ bank_opening_bytes o
found = found_whole bank_opening_bytes IsSpelled bank_opening_at opening_reads

pub only : (bytes : List ℕ) (o : BankOpening) (rest : List ℕ) → bank_opening_at bytes ≡ Some (o, rest) → (a : BankOpening) → IsBankOpening a → bytes ≡ bank_opening_bytes a → (o ≡ a) × (rest ≡ [])
only bytes o rest read a fit same = only_whole bank_opening_bytes IsSpelled bank_opening_at opening_reads bytes o rest read a (sound_spelled a fit) same

pub not_damaged : (fault : CodecFault) (bytes : List ℕ) → Fails fault (bank_opening_at bytes) → (a : BankOpening) → IsBankOpening a → bytes ≡ bank_opening_bytes a → fault ≡ faults.NoMemory
not_damaged fault bytes fails a fit same = not_damaged_whole bank_opening_bytes IsSpelled bank_opening_at opening_reads fault bytes fails a (sound_spelled a fit) same
