-- The parts of entries and configurations, each read exactly.
use Rattle.std.proofs.Common.{◌≡◌, ℕ, zero, suc, ◌^◌, ◌<◌, ◌≤◌, ◌&&◌, Bool, true, false, nat_le, List, [], ◌∷◌, ◌++◌, length, Option, Some, refl, sym, ◌∙◌, ap, subst, append_assoc, arith}
use Rattle.std.specs.Prelude.{IsTrue}
use Rattle.std.specs.List.{list_all}
use Rattle.std.specs.Int.{Width, w16, w32, w64, to_be_bytes}
use Rattle.std.proofs.lemmas.Bool.{le-leb, leb-true}
use Rattle.std.proofs.lemmas.Bool.Decides.{nat_tests}
use Rattle.faim_base.specs.Limits.{longest_message}
use Rattle.faim_base.specs.Numbers.{IsAmount, IsDay, IsMoment, IsSeq, greatest_amount, greatest_seq, last_day, last_minute}
use Rattle.faim_base.specs.Ranges.{IsAba, IsEndpoint, IsImad}
use Rattle.faim_base.specs.Text.{is_text_byte, is_endpoint, is_aba}
use Rattle.faim_base.specs.declared.ids.Imad.{Imad}
use Rattle.entry_codec.specs.Spelling.{imad_bytes, flag, body_bytes}
use Rattle.host_ledger.specs.Ranges.{IsBody}
use Rattle.entry_codec.specs.Reading.{◌>>=◌, tested, piece_at, number_at, byte_at, date_at, moment_at, seq_at, cents_at, endpoint_at, aba_at, code_at, kind_at, flag_at, imad_at, body_at}
use Rattle.entry_codec.proofs.Codecs.{IsBytes, Takes, then_takes, Reads, some_is, step, step_again, refit, tested_reads, piece_reads, byte_reads, reads16, reads32, reads64}

-- numbers up to one that fits
pub most_reads : (w : Width) (limit : ℕ) → Reads (to_be_bytes w) (λ n. n < limit) (number_at w) → (most : ℕ) → most < limit → Reads (to_be_bytes w) (λ n. n ≤ most) (λ bytes. tested (λ n. nat_le n most) (number_at w bytes))
most_reads w limit reads most lt = refit (to_be_bytes w) (λ n. (n < limit) × IsTrue (nat_le n most)) (λ n. n ≤ most) (λ bytes. tested (λ n. nat_le n most) (number_at w bytes))
    (tested_reads (to_be_bytes w) (λ n. n < limit) (number_at w) (λ n. nat_le n most) reads)
    (λ n f. leb-true n most f.1)
    (λ n f. (omega (arith, f, lt), le-leb n most f))

pub date_reads : Reads (to_be_bytes w32) IsDay date_at
unfolding date_at
date_reads = most_reads w32 (2 ^ 32) reads32 last_day (omega arith)

pub moment_reads : Reads (to_be_bytes w32) IsMoment moment_at
unfolding moment_at
moment_reads = most_reads w32 (2 ^ 32) reads32 last_minute (omega arith)

between : (n most : ℕ) → IsTrue (nat_le 1 n && nat_le n most) → (1 ≤ n) × (n ≤ most)
between n most h = (grind (arith, nat_tests), grind (arith, nat_tests))

is_between : (n most : ℕ) → (1 ≤ n) × (n ≤ most) → IsTrue (nat_le 1 n && nat_le n most)
is_between n most h = grind (arith, nat_tests)

-- numbers from 1 to one that fits
pub between_reads : (w : Width) (limit : ℕ) → Reads (to_be_bytes w) (λ n. n < limit) (number_at w) → (most : ℕ) → most < limit → Reads (to_be_bytes w) (λ n. (1 ≤ n) × (n ≤ most)) (λ bytes. tested (λ n. nat_le 1 n && nat_le n most) (number_at w bytes))
between_reads w limit reads most lt = refit (to_be_bytes w) (λ n. (n < limit) × IsTrue (nat_le 1 n && nat_le n most)) (λ n. (1 ≤ n) × (n ≤ most)) (λ bytes. tested (λ n. nat_le 1 n && nat_le n most) (number_at w bytes))
    (tested_reads (to_be_bytes w) (λ n. n < limit) (number_at w) (λ n. nat_le 1 n && nat_le n most) reads)
    (λ n f. between n most f.1)
    (λ n f. (omega (arith, f.1, lt), is_between n most f))

pub seq_reads : Reads (to_be_bytes w32) IsSeq seq_at
unfolding seq_at
seq_reads = between_reads w32 (2 ^ 32) reads32 greatest_seq (omega arith)

pub cents_reads : Reads (to_be_bytes w64) IsAmount cents_at
unfolding cents_at
cents_reads = most_reads w64 (2 ^ 64) reads64 greatest_amount (omega arith)

pub endpoint_reads : Reads (λ (p : List ℕ). p) IsEndpoint endpoint_at
unfolding endpoint_at
endpoint_reads = tested_reads (λ (p : List ℕ). p) (λ p. length p ≡ 8) (piece_at 8) is_endpoint (piece_reads 8)

pub aba_reads : Reads (λ (p : List ℕ). p) IsAba aba_at
unfolding aba_at
aba_reads = tested_reads (λ (p : List ℕ). p) (λ p. length p ≡ 9) (piece_at 9) is_aba (piece_reads 9)

pub code_reads : Reads (λ (p : List ℕ). p) (λ p. (length p ≡ 3) × IsTrue (list_all is_text_byte p)) code_at
unfolding code_at
code_reads = tested_reads (λ (p : List ℕ). p) (λ p. length p ≡ 3) (piece_at 3) (list_all is_text_byte) (piece_reads 3)

pub kind_reads : Reads (λ (b : ℕ). b ∷ []) (λ n. n ≤ 99) kind_at
unfolding kind_at
kind_reads = refit (λ (b : ℕ). b ∷ []) (λ n. (n < 256) × IsTrue (nat_le n 99)) (λ n. n ≤ 99) (λ bytes. tested (λ n. nat_le n 99) (byte_at bytes))
    (tested_reads (λ (b : ℕ). b ∷ []) (λ n. n < 256) byte_at (λ n. nat_le n 99) byte_reads)
    (λ n f. leb-true n 99 f.1)
    (λ n f. (omega (arith, f), le-leb n 99 f))

flag_takes : (bytes : List ℕ) (x : Bool × List ℕ) → IsBytes bytes → flag_at bytes ≡ Some x → Takes bytes (flag x.0 ∷ []) x.1 × Unit {0}
unfolding flag_at
flag_takes [] x fits e = absurd cc
flag_takes (zero ∷ bytes) x fits e = subst (λ (y : Bool × List ℕ). Takes (0 ∷ bytes) (flag y.0 ∷ []) y.1 × Unit {0}) (some_is (false, bytes) x e) (record { parts = refl; fits = λ i. fits (suc i) }, tt)
flag_takes (suc zero ∷ bytes) x fits e = subst (λ (y : Bool × List ℕ). Takes (1 ∷ bytes) (flag y.0 ∷ []) y.1 × Unit {0}) (some_is (true, bytes) x e) (record { parts = refl; fits = λ i. fits (suc i) }, tt)
flag_takes (suc (suc n) ∷ bytes) x fits e = absurd (grind (arith, nat_tests))

flag_again : (b : Bool) (rest : List ℕ) → flag_at (flag b ∷ rest) ≡ Some (b, rest)
unfolding flag_at
flag_again true rest = refl
flag_again false rest = refl

pub flag_reads : Reads (λ (b : Bool). flag b ∷ []) (λ b. Unit {0}) flag_at
flag_reads = record { takes = flag_takes; again = λ b rest fit. flag_again b rest }

abbrev number : ℕ → List ℕ
number n = to_be_bytes w32 n

abbrev piece : List ℕ → List ℕ
piece p = p

abbrev one : ℕ → List ℕ
one b = b ∷ []

imad_takes : (bytes : List ℕ) (x : Imad × List ℕ) → IsBytes bytes → imad_at bytes ≡ Some x → Takes bytes (imad_bytes x.0) x.1 × IsImad x.0
unfolding imad_at
imad_takes bytes x fits e =
    let d = step number IsDay date_at date_reads (λ (d : ℕ × List ℕ). endpoint_at d.1 >>= λ e. seq_at e.1 >>= λ n. Some (record { date = d.0; source = e.0; seq = n.0 }, n.1)) bytes x fits e in
    let s = step piece IsEndpoint endpoint_at endpoint_reads (λ (e : List ℕ × List ℕ). seq_at e.1 >>= λ n. Some (record { date = d.0.0; source = e.0; seq = n.0 }, n.1)) d.0.1 x d.1.fits d.3 in
    let n = step number IsSeq seq_at seq_reads (λ (n : ℕ × List ℕ). Some (record { date = d.0.0; source = s.0.0; seq = n.0 }, n.1)) s.0.1 x s.1.fits s.3 in
    subst (λ (y : Imad × List ℕ). Takes bytes (imad_bytes y.0) y.1 × IsImad y.0) (some_is (record { date = d.0.0; source = s.0.0; seq = n.0.0 }, n.0.1) x n.3)
    (then_takes bytes (number d.0.0) d.0.1 (s.0.0 ++ number n.0.0) n.0.1 d.1 (then_takes d.0.1 s.0.0 s.0.1 (number n.0.0) n.0.1 s.1 n.1), record { day = d.2; sender = s.2; number = n.2 })

imad_again : (i : Imad) (rest : List ℕ) → IsImad i → imad_at (imad_bytes i ++ rest) ≡ Some (i, rest)
unfolding imad_at
imad_again i rest fit =
    let grouped : imad_bytes i ++ rest ≡ number i.date ++ (i.source ++ (number i.seq ++ rest)) = append_assoc (number i.date) (i.source ++ number i.seq) rest ∙ ap (λ (t : List ℕ). number i.date ++ t) (append_assoc i.source (number i.seq) rest) in
    ap imad_at grouped
    ∙ step_again number IsDay date_at date_reads (λ (d : ℕ × List ℕ). endpoint_at d.1 >>= λ e. seq_at e.1 >>= λ n. Some (record { date = d.0; source = e.0; seq = n.0 }, n.1)) i.date (i.source ++ (number i.seq ++ rest)) fit.day
    ∙ step_again piece IsEndpoint endpoint_at endpoint_reads (λ (e : List ℕ × List ℕ). seq_at e.1 >>= λ n. Some (record { date = i.date; source = e.0; seq = n.0 }, n.1)) i.source (number i.seq ++ rest) fit.sender
    ∙ step_again number IsSeq seq_at seq_reads (λ (n : ℕ × List ℕ). Some (record { date = i.date; source = i.source; seq = n.0 }, n.1)) i.seq rest fit.number

pub imad_reads : Reads imad_bytes IsImad imad_at
imad_reads = record { takes = imad_takes; again = imad_again }

abbrev IsLength : ℕ → Type 0
IsLength n = (1 ≤ n) × (n ≤ longest_message)

abbrev length_at : List ℕ → Option (ℕ × List ℕ)
length_at bytes = tested (λ n. nat_le 1 n && nat_le n longest_message) (number_at w16 bytes)

length_reads : Reads (to_be_bytes w16) IsLength length_at
length_reads = between_reads w16 (2 ^ 16) reads16 longest_message (omega arith)

body_takes : (bytes : List ℕ) (x : List ℕ × List ℕ) → IsBytes bytes → body_at bytes ≡ Some x → Takes bytes (body_bytes x.0) x.1 × IsBody x.0
unfolding body_at
body_takes bytes x fits e =
    let n = step (to_be_bytes w16) IsLength length_at length_reads (λ (n : ℕ × List ℕ). piece_at n.0 n.1) bytes x fits e in
    let p = (piece_reads n.0.0).takes n.0.1 x n.1.fits n.3 in (
      then_takes bytes (to_be_bytes w16 (length x.0)) n.0.1 x.0 x.1 (subst (λ k. Takes bytes (to_be_bytes w16 k) n.0.1) (sym p.1) n.1) p.0,
      (omega (arith, n.2.0, p.1), omega (arith, n.2.1, p.1)),
    )

body_again : (b rest : List ℕ) → IsBody b → body_at (body_bytes b ++ rest) ≡ Some (b, rest)
unfolding body_at
body_again b rest fit =
    ap body_at (append_assoc (to_be_bytes w16 (length b)) b rest)
    ∙ step_again (to_be_bytes w16) IsLength length_at length_reads (λ (n : ℕ × List ℕ). piece_at n.0 n.1) (length b) (b ++ rest) fit
    ∙ (piece_reads (length b)).again b rest refl

pub body_reads : Reads body_bytes IsBody body_at
body_reads = record { takes = body_takes; again = body_again }
