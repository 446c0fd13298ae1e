-- The parts of a bank's entries, each read exactly.
use Rattle.std.proofs.Common.{◌≡◌, ℕ, Bool, true, false, cond, List, [], ◌∷◌, ◌++◌, Option, Some, None, refl, sym, ◌∙◌, ap, subst, append_assoc}
use Rattle.std.specs.Prelude.{IfSome}
use Rattle.std.specs.Int.{w32, to_be_bytes}
use Rattle.faim_base.specs.Numbers.{IsDay, IsSeq}
use Rattle.faim_base.specs.Ranges.{IsEndpoint, IsImad, IsPosition}
use Rattle.faim_base.specs.declared.ids.Imad.{Imad}
use Rattle.faim_base.specs.declared.ids.OutPos.{OutPos}
use Rattle.entry_codec.specs.BankReading.{position_at, numbered_at, named_date_at, next_at}
use Rattle.entry_codec.specs.BankSpelling.{position_bytes, numbered_bytes, next_bytes}
use Rattle.entry_codec.specs.Reading.{◌>>=◌, date_at, seq_at, flag_at}
use Rattle.entry_codec.specs.Spelling.{flag}
use Rattle.entry_codec.proofs.Codecs.{IsBytes, Takes, then_takes, Reads, some_is, step, step_again}
use Rattle.entry_codec.proofs.Pieces.{date_reads, seq_reads, flag_reads}

abbrev number : ℕ → List ℕ
number n = to_be_bytes w32 n

abbrev placed : ℕ → ℕ → OutPos
placed d n = record { date = d; seq = n }

abbrev q1 : ℕ → ℕ × List ℕ → Option (OutPos × List ℕ)
q1 d n = Some (placed d n.0, n.1)

abbrev q0 : ℕ × List ℕ → Option (OutPos × List ℕ)
q0 d = seq_at d.1 >>= q1 d.0

position_takes : (bytes : List ℕ) (x : OutPos × List ℕ) → IsBytes bytes → position_at bytes ≡ Some x → Takes bytes (position_bytes x.0) x.1 × IsPosition x.0
unfolding position_at
position_takes bytes x fits e =
    let d = step number IsDay date_at date_reads q0 bytes x fits e in
    let n = step number IsSeq seq_at seq_reads (q1 d.0.0) d.0.1 x d.1.fits d.3 in
    subst (λ (y : OutPos × List ℕ). Takes bytes (position_bytes y.0) y.1 × IsPosition y.0) (some_is (placed d.0.0 n.0.0, n.0.1) x n.3)
    (then_takes bytes (number d.0.0) d.0.1 (number n.0.0) n.0.1 d.1 n.1, record { day = d.2; number = n.2 })

position_again : (p : OutPos) (rest : List ℕ) → IsPosition p → position_at (position_bytes p ++ rest) ≡ Some (p, rest)
unfolding position_at
position_again p rest fit =
    ap position_at (append_assoc (number p.date) (number p.seq) rest)
    ∙ step_again number IsDay date_at date_reads q0 p.date (number p.seq ++ rest) fit.day
    ∙ step_again number IsSeq seq_at seq_reads (q1 p.date) p.seq rest fit.number

pub position_reads : Reads position_bytes IsPosition position_at
position_reads = record { takes = position_takes; again = position_again }

-- an IMAD of this source
abbrev pub IsImadOf : List ℕ → Imad → Type 0
IsImadOf source i = IsImad i × (i.source ≡ source)

abbrev sent_by : List ℕ → OutPos × List ℕ → Option (Imad × List ℕ)
sent_by source p = Some (record { date = p.0.date; source = source; seq = p.0.seq }, p.1)

pub numbered_takes : (source : List ℕ) → IsEndpoint source → (bytes : List ℕ) (x : Imad × List ℕ) → IsBytes bytes → numbered_at source bytes ≡ Some x → Takes bytes (numbered_bytes x.0) x.1 × IsImadOf source x.0
unfolding numbered_at
numbered_takes source own bytes x fits e =
    let p = step position_bytes IsPosition position_at position_reads (sent_by source) bytes x fits e in
    subst (λ (y : Imad × List ℕ). Takes bytes (numbered_bytes y.0) y.1 × IsImadOf source y.0) (some_is (record { date = p.0.0.date; source = source; seq = p.0.0.seq }, p.0.1) x p.3)
    (p.1, (record { day = p.2.day; sender = own; number = p.2.number }, refl))

pub numbered_again : (source : List ℕ) (i : Imad) (rest : List ℕ) → IsImadOf source i → numbered_at source (numbered_bytes i ++ rest) ≡ Some (i, rest)
unfolding numbered_at
numbered_again source i rest fit =
    step_again position_bytes IsPosition position_at position_reads (sent_by source) (placed i.date i.seq) rest (record { day = fit.0.day; number = fit.0.number })
    ∙ ap (λ (s : List ℕ). Some (record { date = i.date; source = s; seq = i.seq }, rest)) (sym fit.1)

abbrev marked : Bool → List ℕ
marked f = flag f ∷ []

abbrev n1 : ℕ × List ℕ → Option (Option ℕ × List ℕ)
n1 d = Some (Some d.0, d.1)

abbrev n0 : Bool × List ℕ → Option (Option ℕ × List ℕ)
n0 f = cond f.0 (named_date_at f.1) (Some (None, f.1))

after_flag : (f : Bool) (bytes rest : List ℕ) (x : Option ℕ × List ℕ) → Takes bytes (marked f) rest → n0 (f, rest) ≡ Some x → Takes bytes (next_bytes x.0) x.1 × IfSome x.0 IsDay
after_flag true bytes rest x t e =
    let d = step number IsDay date_at date_reads n1 rest x t.fits e in
    subst (λ (y : Option ℕ × List ℕ). Takes bytes (next_bytes y.0) y.1 × IfSome y.0 IsDay) (some_is (Some d.0.0, d.0.1) x d.3)
    (then_takes bytes (marked true) rest (number d.0.0) d.0.1 t d.1, d.2)
after_flag false bytes rest x t e = subst (λ (y : Option ℕ × List ℕ). Takes bytes (next_bytes y.0) y.1 × IfSome y.0 IsDay) (some_is (None, rest) x e) (t, tt)

next_takes : (bytes : List ℕ) (x : Option ℕ × List ℕ) → IsBytes bytes → next_at bytes ≡ Some x → Takes bytes (next_bytes x.0) x.1 × IfSome x.0 IsDay
unfolding next_at
next_takes bytes x fits e =
    let f = step marked (λ b. Unit {0}) flag_at flag_reads n0 bytes x fits e in
    after_flag f.0.0 bytes f.0.1 x f.1 f.3

next_again : (n : Option ℕ) (rest : List ℕ) → IfSome n IsDay → next_at (next_bytes n ++ rest) ≡ Some (n, rest)
unfolding next_at
next_again (Some d) rest fit =
    step_again marked (λ b. Unit {0}) flag_at flag_reads n0 true (number d ++ rest) tt
    ∙ step_again number IsDay date_at date_reads n1 d rest fit
next_again None rest fit = step_again marked (λ b. Unit {0}) flag_at flag_reads n0 false rest tt

pub next_reads : Reads next_bytes (λ n. IfSome n IsDay) next_at
next_reads = record { takes = next_takes; again = next_again }
