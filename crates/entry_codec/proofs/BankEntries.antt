-- Whole entries of a bank, read exactly.
use Rattle.std.proofs.Common.{◌≡◌, ⊎_elim, ℕ, suc, ◌==◌, true, cond, List, [], ◌∷◌, ◌++◌, Option, Some, None, ◌∙◌, ap, subst, append_assoc}
use Rattle.std.specs.Prelude.{IfSome}
use Rattle.faim_base.specs.Numbers.{IsDay}
use Rattle.faim_base.specs.Ranges.{IsEndpoint, IsPosition}
use Rattle.faim_base.specs.declared.ids.Imad.{Imad}
use Rattle.faim_base.specs.declared.ids.OutPos.{OutPos}
use Rattle.faim_base.specs.declared.judgement.Verdict.{Verdict}
use Rattle.bank_books.specs.declared.entries.BankEntry.{BankEntry}
use Rattle.bank_books.specs.declared.entries.BankEntry.TheVariants.{Drafted, Answered, Received}
use Rattle.host_ledger.specs.Ranges.{IsVerdict, IsBody}
use Rattle.entry_codec.specs.BankRanges.{IsEntryOf}
use Rattle.entry_codec.specs.BankReading.{position_at, numbered_at, next_at, drafted_at, answered_at, received_at, bank_entry_at}
use Rattle.entry_codec.specs.BankSpelling.{position_bytes, numbered_bytes, next_bytes, bank_entry_bytes}
use Rattle.entry_codec.specs.Reading.{◌>>=◌, verdict_at, body_at}
use Rattle.entry_codec.specs.Spelling.{verdict_bytes, body_bytes}
use Rattle.entry_codec.proofs.BankParts.{IsImadOf, position_reads, numbered_takes, numbered_again, next_reads}
use Rattle.entry_codec.proofs.Codecs.{IsBytes, Takes, then_takes, lettered, Reads, some_is, chosen, either_some, step, step_again}
use Rattle.entry_codec.proofs.Entries.{verdict_reads}
use Rattle.entry_codec.proofs.Fronts.{one_front}
use Rattle.entry_codec.proofs.Pieces.{body_reads}

abbrev d1 : Imad → List ℕ × List ℕ → Option (BankEntry × List ℕ)
d1 i t = Some (Drafted i t.0, t.1)

abbrev d0 : Imad × List ℕ → Option (BankEntry × List ℕ)
d0 i = body_at i.1 >>= d1 i.0

abbrev v1 : Imad → Verdict × List ℕ → Option (BankEntry × List ℕ)
v1 i v = Some (Answered i v.0, v.1)

abbrev v0 : Imad × List ℕ → Option (BankEntry × List ℕ)
v0 i = verdict_at i.1 >>= v1 i.0

abbrev r2 : OutPos → Option ℕ → List ℕ × List ℕ → Option (BankEntry × List ℕ)
r2 p n t = Some (Received p t.0 n, t.1)

abbrev r1 : OutPos → Option ℕ × List ℕ → Option (BankEntry × List ℕ)
r1 p n = body_at n.1 >>= r2 p n.0

abbrev r0 : OutPos × List ℕ → Option (BankEntry × List ℕ)
r0 p = next_at p.1 >>= r1 p.0

abbrev IsNext : Option ℕ → Type 0
IsNext n = IfSome n IsDay

-- a bank whose endpoint is this source
module _ (source : List ℕ) (own : IsEndpoint source) where
  numbered_reads : Reads numbered_bytes (IsImadOf source) (numbered_at source)
  numbered_reads = record { takes = numbered_takes source own; again = numbered_again source }

  drafted_takes : (bytes : List ℕ) (x : BankEntry × List ℕ) → IsBytes bytes → drafted_at source bytes ≡ Some x → (b : ℕ) → (b == 68) ≡ true → Takes (b ∷ bytes) (bank_entry_bytes x.0) x.1 × IsEntryOf source x.0
  unfolding drafted_at
  drafted_takes bytes x fits e b is =
      let i = step numbered_bytes (IsImadOf source) (numbered_at source) numbered_reads d0 bytes x fits e in
      let t = step body_bytes IsBody body_at body_reads (d1 i.0.0) i.0.1 x i.1.fits i.3 in
      subst (λ (y : BankEntry × List ℕ). Takes (b ∷ bytes) (bank_entry_bytes y.0) y.1 × IsEntryOf source y.0) (some_is (Drafted i.0.0 t.0.0, t.0.1) x t.3)
      (lettered 68 b bytes (numbered_bytes i.0.0 ++ body_bytes t.0.0) t.0.1 is (then_takes bytes (numbered_bytes i.0.0) i.0.1 (body_bytes t.0.0) t.0.1 i.1 t.1), ((i.2.0, t.2), i.2.1))

  answered_takes : (bytes : List ℕ) (x : BankEntry × List ℕ) → IsBytes bytes → answered_at source bytes ≡ Some x → (b : ℕ) → (b == 65) ≡ true → Takes (b ∷ bytes) (bank_entry_bytes x.0) x.1 × IsEntryOf source x.0
  unfolding answered_at
  answered_takes bytes x fits e b is =
      let i = step numbered_bytes (IsImadOf source) (numbered_at source) numbered_reads v0 bytes x fits e in
      let v = step verdict_bytes IsVerdict verdict_at verdict_reads (v1 i.0.0) i.0.1 x i.1.fits i.3 in
      subst (λ (y : BankEntry × List ℕ). Takes (b ∷ bytes) (bank_entry_bytes y.0) y.1 × IsEntryOf source y.0) (some_is (Answered i.0.0 v.0.0, v.0.1) x v.3)
      (lettered 65 b bytes (numbered_bytes i.0.0 ++ verdict_bytes v.0.0) v.0.1 is (then_takes bytes (numbered_bytes i.0.0) i.0.1 (verdict_bytes v.0.0) v.0.1 i.1 v.1), ((i.2.0, v.2), i.2.1))

  received_takes : (bytes : List ℕ) (x : BankEntry × List ℕ) → IsBytes bytes → received_at bytes ≡ Some x → (b : ℕ) → (b == 73) ≡ true → Takes (b ∷ bytes) (bank_entry_bytes x.0) x.1 × IsEntryOf source x.0
  unfolding received_at
  received_takes bytes x fits e b is =
      let p = step position_bytes IsPosition position_at position_reads r0 bytes x fits e in
      let n = step next_bytes IsNext next_at next_reads (r1 p.0.0) p.0.1 x p.1.fits p.3 in
      let t = step body_bytes IsBody body_at body_reads (r2 p.0.0 n.0.0) n.0.1 x n.1.fits n.3 in
      let t1 = then_takes p.0.1 (next_bytes n.0.0) n.0.1 (body_bytes t.0.0) t.0.1 n.1 t.1 in
      let t0 = then_takes bytes (position_bytes p.0.0) p.0.1 (next_bytes n.0.0 ++ body_bytes t.0.0) t.0.1 p.1 t1 in
      subst (λ (y : BankEntry × List ℕ). Takes (b ∷ bytes) (bank_entry_bytes y.0) y.1 × IsEntryOf source y.0) (some_is (Received p.0.0 t.0.0 n.0.0, t.0.1) x t.3)
      (lettered 73 b bytes (position_bytes p.0.0 ++ (next_bytes n.0.0 ++ body_bytes t.0.0)) t.0.1 is t0, ((p.2, n.2, t.2), tt))

  bank_entry_takes : (bytes : List ℕ) (x : BankEntry × List ℕ) → IsBytes bytes → bank_entry_at source bytes ≡ Some x → Takes bytes (bank_entry_bytes x.0) x.1 × IsEntryOf source x.0
  unfolding bank_entry_at
  bank_entry_takes [] x fits e = absurd cc
  bank_entry_takes (b ∷ bytes) x fits e =
      ⊎_elim (λ d. drafted_takes bytes x (λ i. fits (suc i)) d.1 b d.0)
      (λ other.
      ⊎_elim (λ a. answered_takes bytes x (λ i. fits (suc i)) a.1 b a.0)
      (λ last. let r = chosen (b == 73) (received_at bytes) x last in received_takes bytes x (λ i. fits (suc i)) r.1 b r.0)
      (either_some (b == 65) (answered_at source bytes) (cond (b == 73) (received_at bytes) None) x other))
      (either_some (b == 68) (drafted_at source bytes) (cond (b == 65) (answered_at source bytes) (cond (b == 73) (received_at bytes) None)) x e)

drafted_again : (source : List ℕ) (i : Imad) (t rest : List ℕ) → IsImadOf source i → IsBody t → drafted_at source ((numbered_bytes i ++ body_bytes t) ++ rest) ≡ Some (Drafted i t, rest)
unfolding drafted_at
drafted_again source i t rest hi ht =
    ap (drafted_at source) (append_assoc (numbered_bytes i) (body_bytes t) rest)
    ∙ ap (λ (o : Option (Imad × List ℕ)). o >>= d0) (numbered_again source i (body_bytes t ++ rest) hi)
    ∙ step_again body_bytes IsBody body_at body_reads (d1 i) t rest ht

answered_again : (source : List ℕ) (i : Imad) (v : Verdict) (rest : List ℕ) → IsImadOf source i → IsVerdict v → answered_at source ((numbered_bytes i ++ verdict_bytes v) ++ rest) ≡ Some (Answered i v, rest)
unfolding answered_at
answered_again source i v rest hi hv =
    ap (answered_at source) (append_assoc (numbered_bytes i) (verdict_bytes v) rest)
    ∙ ap (λ (o : Option (Imad × List ℕ)). o >>= v0) (numbered_again source i (verdict_bytes v ++ rest) hi)
    ∙ step_again verdict_bytes IsVerdict verdict_at verdict_reads (v1 i) v rest hv

received_again : (p : OutPos) (n : Option ℕ) (t rest : List ℕ) → IsPosition p → IsNext n → IsBody t → received_at ((position_bytes p ++ (next_bytes n ++ body_bytes t)) ++ rest) ≡ Some (Received p t n, rest)
unfolding received_at
received_again p n t rest hp hn ht =
    let grouped : (position_bytes p ++ (next_bytes n ++ body_bytes t)) ++ rest ≡ position_bytes p ++ (next_bytes n ++ (body_bytes t ++ rest)) =
    append_assoc (position_bytes p) (next_bytes n ++ body_bytes t) rest
    ∙ ap (λ (l : List ℕ). position_bytes p ++ l) (append_assoc (next_bytes n) (body_bytes t) rest) in
    ap received_at grouped
    ∙ step_again position_bytes IsPosition position_at position_reads r0 p (next_bytes n ++ (body_bytes t ++ rest)) hp
    ∙ step_again next_bytes IsNext next_at next_reads (r1 p) n (body_bytes t ++ rest) hn
    ∙ step_again body_bytes IsBody body_at body_reads (r2 p n) t rest ht

pub bank_entry_again : (source : List ℕ) (e : BankEntry) (rest : List ℕ) → IsEntryOf source e → bank_entry_at source (bank_entry_bytes e ++ rest) ≡ Some (e, rest)
unfolding bank_entry_at
bank_entry_again source (Drafted i t) rest fit = drafted_again source i t rest (fit.0.0, fit.1) fit.0.1
bank_entry_again source (Answered i v) rest fit = answered_again source i v rest (fit.0.0, fit.1) fit.0.1
bank_entry_again source (Received p t n) rest fit = received_again p n t rest fit.0.0 fit.0.1 fit.0.2

-- each spelling and what follows it is read as its entry
pub bank_entry_reads : (source : List ℕ) → IsEndpoint source → Reads bank_entry_bytes (IsEntryOf source) (bank_entry_at source)
bank_entry_reads source own = record { takes = bank_entry_takes source own; again = bank_entry_again source }

-- among the entries of one bank no spelling begins another
pub one_bank_entry : (source : List ℕ) (a b : BankEntry) (x y : List ℕ) → IsEntryOf source a → IsEntryOf source b → bank_entry_bytes a ++ x ≡ bank_entry_bytes b ++ y → (a ≡ b) × (x ≡ y)
one_bank_entry source = one_front bank_entry_bytes (IsEntryOf source) (bank_entry_at source) (bank_entry_again source)
