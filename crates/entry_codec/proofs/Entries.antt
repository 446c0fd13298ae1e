-- Whole entries, read exactly.
use Rattle.std.proofs.Common.{◌≡◌, ⊎_elim, ℕ, zero, suc, ◌^◌, ◌<◌, ◌==◌, Bool, cond, List, [], ◌∷◌, ◌++◌, drop, Option, Some, None, sym, ◌∙◌, ap, subst, append_assoc, arith}
use Rattle.std.specs.Prelude.{IsTrue}
use Rattle.std.specs.Int.{w16, w32, w64, to_be_bytes}
use Rattle.std.proofs.lemmas.Bool.Decides.{nat_tests}
use Rattle.std.proofs.lemmas.Bool.{eqb-true}
use Rattle.faim_base.specs.Numbers.{IsAmount, IsDay, IsMoment, IsSeq, IsType}
use Rattle.faim_base.specs.Ranges.{IsAba, IsEndpoint, IsImad}
use Rattle.faim_base.specs.Refusals.{is_recorded}
use Rattle.faim_base.specs.declared.ids.Imad.{Imad}
use Rattle.faim_base.specs.declared.judgement.Head.{Head}
use Rattle.faim_base.specs.declared.judgement.Reject.{Reject}
use Rattle.faim_base.specs.declared.judgement.Verdict.{Verdict}
use Rattle.faim_base.specs.declared.judgement.Verdict.TheVariants.{Taken, Refused}
use Rattle.host_ledger.specs.declared.entries.Entry.{Entry}
use Rattle.host_ledger.specs.declared.entries.Entry.TheVariants.{Posted, Roll}
use Rattle.entry_codec.specs.Spelling.{imad_bytes, head_bytes, verdict_bytes, flag, body_bytes, entry_bytes}
use Rattle.host_ledger.specs.Ranges.{IsCode, IsHead, IsVerdict, IsBody, IsEntry}
use Rattle.entry_codec.specs.Reading.{◌>>=◌, number_at, byte_at, date_at, moment_at, seq_at, cents_at, endpoint_at, aba_at, code_at, kind_at, flag_at, imad_at, head_at, taken_at, refused_at, verdict_at, body_at, posted_at, roll_at, entry_at}
use Rattle.entry_codec.proofs.Codecs.{IsBytes, Takes, then_takes, Reads, some_is, test_some, chosen, either_some, step, step_again, byte_reads, reads16}
use Rattle.entry_codec.proofs.Fronts.{one_front}
use Rattle.entry_codec.proofs.Pieces.{date_reads, moment_reads, seq_reads, cents_reads, endpoint_reads, aba_reads, code_reads, kind_reads, flag_reads, imad_reads, body_reads}

abbrev number : ℕ → List ℕ
number n = to_be_bytes w32 n

abbrev piece : List ℕ → List ℕ
piece p = p

abbrev one : ℕ → List ℕ
one b = b ∷ []

abbrev made : Imad → List ℕ → List ℕ → List ℕ → ℕ → ℕ → ℕ → Head
made i s r c k u a = record { imad = i; sender = s; receiver = r; code = c; kind = k; sub = u; amount = a }

abbrev k6 : Imad → List ℕ → List ℕ → List ℕ → ℕ → ℕ × List ℕ → Option (Head × List ℕ)
k6 i s r c k u = cents_at u.1 >>= λ a. Some (made i s r c k u.0 a.0, a.1)

abbrev k5 : Imad → List ℕ → List ℕ → List ℕ → ℕ × List ℕ → Option (Head × List ℕ)
k5 i s r c k = kind_at k.1 >>= k6 i s r c k.0

abbrev k4 : Imad → List ℕ → List ℕ → List ℕ × List ℕ → Option (Head × List ℕ)
k4 i s r c = kind_at c.1 >>= k5 i s r c.0

abbrev k3 : Imad → List ℕ → List ℕ × List ℕ → Option (Head × List ℕ)
k3 i s r = code_at r.1 >>= k4 i s r.0

abbrev k2 : Imad → List ℕ × List ℕ → Option (Head × List ℕ)
k2 i s = aba_at s.1 >>= k3 i s.0

abbrev k1 : Imad × List ℕ → Option (Head × List ℕ)
k1 i = aba_at i.1 >>= k2 i.0

-- the type, the subtype and the amount
record Last (i : Imad) (s r c bytes : List ℕ) (x : Head × List ℕ) : Type 0 where
  kind : ℕ
  sub : ℕ
  amount : ℕ
  takes : Takes bytes (one kind ++ (one sub ++ to_be_bytes w64 amount)) x.1
  is : made i s r c kind sub amount ≡ x.0
  kind_fits : IsType kind
  sub_fits : IsType sub
  amount_fits : IsAmount amount

last_takes : (i : Imad) (s r c bytes : List ℕ) (x : Head × List ℕ) → IsBytes bytes → (kind_at bytes >>= k5 i s r c) ≡ Some x → Last i s r c bytes x
last_takes i s r c bytes x fits e =
    let k = step one IsType kind_at kind_reads (k5 i s r c) bytes x fits e in
    let u = step one IsType kind_at kind_reads (k6 i s r c k.0.0) k.0.1 x k.1.fits k.3 in
    let a = step (to_be_bytes w64) IsAmount cents_at cents_reads (λ (a : ℕ × List ℕ). Some (made i s r c k.0.0 u.0.0 a.0, a.1)) u.0.1 x u.1.fits u.3 in
    let same = some_is (made i s r c k.0.0 u.0.0 a.0.0, a.0.1) x a.3 in
    record {
      kind = k.0.0;
      sub = u.0.0;
      amount = a.0.0;
      takes = subst (λ (l : List ℕ). Takes bytes (one k.0.0 ++ (one u.0.0 ++ to_be_bytes w64 a.0.0)) l) (ap (λ (y : Head × List ℕ). y.1) same)
          (then_takes bytes (one k.0.0) k.0.1 (one u.0.0 ++ to_be_bytes w64 a.0.0) a.0.1 k.1 (then_takes k.0.1 (one u.0.0) u.0.1 (to_be_bytes w64 a.0.0) a.0.1 u.1 a.1));
      is = ap (λ (y : Head × List ℕ). y.0) same;
      kind_fits = k.2;
      sub_fits = u.2;
      amount_fits = a.2;
    }

-- the numbers of the banks, the code, and the last
record Rest (i : Imad) (bytes : List ℕ) (x : Head × List ℕ) : Type 0 where
  sender : List ℕ
  receiver : List ℕ
  code : List ℕ
  kind : ℕ
  sub : ℕ
  amount : ℕ
  takes : Takes bytes (sender ++ (receiver ++ (code ++ (one kind ++ (one sub ++ to_be_bytes w64 amount))))) x.1
  is : made i sender receiver code kind sub amount ≡ x.0
  sender_fits : IsAba sender
  receiver_fits : IsAba receiver
  code_fits : IsCode code
  kind_fits : IsType kind
  sub_fits : IsType sub
  amount_fits : IsAmount amount

rest_takes : (i : Imad) (bytes : List ℕ) (x : Head × List ℕ) → IsBytes bytes → (aba_at bytes >>= k2 i) ≡ Some x → Rest i bytes x
rest_takes i bytes x fits e =
    let s = step piece IsAba aba_at aba_reads (k2 i) bytes x fits e in
    let r = step piece IsAba aba_at aba_reads (k3 i s.0.0) s.0.1 x s.1.fits s.3 in
    let c = step piece IsCode code_at code_reads (k4 i s.0.0 r.0.0) r.0.1 x r.1.fits r.3 in
    let l = last_takes i s.0.0 r.0.0 c.0.0 c.0.1 x c.1.fits c.3 in
    let t = one l.kind ++ (one l.sub ++ to_be_bytes w64 l.amount) in
    record {
      sender = s.0.0;
      receiver = r.0.0;
      code = c.0.0;
      kind = l.kind;
      sub = l.sub;
      amount = l.amount;
      takes = then_takes bytes s.0.0 s.0.1 (r.0.0 ++ (c.0.0 ++ t)) x.1 s.1 (then_takes s.0.1 r.0.0 r.0.1 (c.0.0 ++ t) x.1 r.1 (then_takes r.0.1 c.0.0 c.0.1 t x.1 c.1 l.takes));
      is = l.is;
      sender_fits = s.2;
      receiver_fits = r.2;
      code_fits = c.2;
      kind_fits = l.kind_fits;
      sub_fits = l.sub_fits;
      amount_fits = l.amount_fits;
    }

head_takes : (bytes : List ℕ) (x : Head × List ℕ) → IsBytes bytes → head_at bytes ≡ Some x → Takes bytes (head_bytes x.0) x.1 × IsHead x.0
unfolding head_at
head_takes bytes x fits e =
    let i = step imad_bytes IsImad imad_at imad_reads k1 bytes x fits e in
    let r = rest_takes i.0.0 i.0.1 x i.1.fits i.3 in
    let t = then_takes bytes (imad_bytes i.0.0) i.0.1 (r.sender ++ (r.receiver ++ (r.code ++ (one r.kind ++ (one r.sub ++ to_be_bytes w64 r.amount))))) x.1 i.1 r.takes in
    subst (λ (h : Head). Takes bytes (head_bytes h) x.1 × IsHead h) r.is
    (t, record { imad = i.2; sender = r.sender_fits; receiver = r.receiver_fits; code = r.code_fits; kind = r.kind_fits; sub = r.sub_fits; amount = r.amount_fits })

head_again : (h : Head) (rest : List ℕ) → IsHead h → head_at (head_bytes h ++ rest) ≡ Some (h, rest)
unfolding head_at
head_again h rest fit =
    let a = to_be_bytes w64 h.amount in
    let grouped : head_bytes h ++ rest ≡ imad_bytes h.imad ++ (h.sender ++ (h.receiver ++ (h.code ++ (one h.kind ++ (one h.sub ++ (to_be_bytes w64 h.amount ++ rest)))))) =
    append_assoc (imad_bytes h.imad) (h.sender ++ (h.receiver ++ (h.code ++ (one h.kind ++ (one h.sub ++ a))))) rest
    ∙ ap (λ (t : List ℕ). imad_bytes h.imad ++ t) (append_assoc h.sender (h.receiver ++ (h.code ++ (one h.kind ++ (one h.sub ++ a)))) rest
    ∙ ap (λ (t : List ℕ). h.sender ++ t) (append_assoc h.receiver (h.code ++ (one h.kind ++ (one h.sub ++ a))) rest
    ∙ ap (λ (t : List ℕ). h.receiver ++ t) (append_assoc h.code (one h.kind ++ (one h.sub ++ a)) rest))) in
    ap head_at grouped
    ∙ step_again imad_bytes IsImad imad_at imad_reads k1 h.imad (h.sender ++ (h.receiver ++ (h.code ++ (one h.kind ++ (one h.sub ++ (a ++ rest)))))) fit.imad
    ∙ step_again piece IsAba aba_at aba_reads (k2 h.imad) h.sender (h.receiver ++ (h.code ++ (one h.kind ++ (one h.sub ++ (a ++ rest))))) fit.sender
    ∙ step_again piece IsAba aba_at aba_reads (k3 h.imad h.sender) h.receiver (h.code ++ (one h.kind ++ (one h.sub ++ (a ++ rest)))) fit.receiver
    ∙ step_again piece IsCode code_at code_reads (k4 h.imad h.sender h.receiver) h.code (one h.kind ++ (one h.sub ++ (a ++ rest))) fit.code
    ∙ step_again one IsType kind_at kind_reads (k5 h.imad h.sender h.receiver h.code) h.kind (one h.sub ++ (a ++ rest)) fit.kind
    ∙ step_again one IsType kind_at kind_reads (k6 h.imad h.sender h.receiver h.code h.kind) h.sub (a ++ rest) fit.sub
    ∙ step_again (to_be_bytes w64) IsAmount cents_at cents_reads (λ (a : ℕ × List ℕ). Some (made h.imad h.sender h.receiver h.code h.kind h.sub a.0, a.1)) h.amount rest fit.amount

head_reads : Reads head_bytes IsHead head_at
head_reads = record { takes = head_takes; again = head_again }

abbrev taken_bytes : Verdict → List ℕ
taken_bytes v = drop 1 (verdict_bytes v)

taken_takes : (bytes : List ℕ) (x : Verdict × List ℕ) → IsBytes bytes → taken_at bytes ≡ Some x → Takes (1 ∷ bytes) (verdict_bytes x.0) x.1 × IsVerdict x.0
unfolding taken_at
taken_takes bytes x fits e =
    let d = step piece IsEndpoint endpoint_at endpoint_reads (λ (d : List ℕ × List ℕ). seq_at d.1 >>= λ n. Some (Taken d.0 n.0, n.1)) bytes x fits e in
    let n = step number IsSeq seq_at seq_reads (λ (n : ℕ × List ℕ). Some (Taken d.0.0 n.0, n.1)) d.0.1 x d.1.fits d.3 in
    let t = then_takes bytes d.0.0 d.0.1 (number n.0.0) n.0.1 d.1 n.1 in
    subst (λ (y : Verdict × List ℕ). Takes (1 ∷ bytes) (verdict_bytes y.0) y.1 × IsVerdict y.0) (some_is (Taken d.0.0 n.0.0, n.0.1) x n.3)
    (record { parts = ap (λ (l : List ℕ). 1 ∷ l) t.parts; fits = t.fits }, (d.2, n.2))

abbrev refusing : ℕ → ℕ × List ℕ → Option (Verdict × List ℕ)
refusing c n = cond (is_recorded (record { category = c; code = n.0 })) (Some (Refused (record { category = c; code = n.0 }), n.1)) None

refused_takes : (bytes : List ℕ) (x : Verdict × List ℕ) → IsBytes bytes → refused_at bytes ≡ Some x → Takes (2 ∷ bytes) (verdict_bytes x.0) x.1 × IsVerdict x.0
unfolding refused_at
refused_takes bytes x fits e =
    let c = step one (λ n. n < 256) byte_at byte_reads (λ (c : ℕ × List ℕ). number_at w16 c.1 >>= refusing c.0) bytes x fits e in
    let n = step (to_be_bytes w16) (λ n. n < 2 ^ 16) (number_at w16) reads16 (refusing c.0.0) c.0.1 x c.1.fits c.3 in
    let t = then_takes bytes (one c.0.0) c.0.1 (to_be_bytes w16 n.0.0) n.0.1 c.1 n.1 in
    let g = test_some (is_recorded (record { category = c.0.0; code = n.0.0 })) (Refused (record { category = c.0.0; code = n.0.0 }), n.0.1) x n.3 in
    subst (λ (y : Verdict × List ℕ). Takes (2 ∷ bytes) (verdict_bytes y.0) y.1 × IsVerdict y.0) g.1
    (record { parts = ap (λ (l : List ℕ). 2 ∷ l) t.parts; fits = t.fits }, g.0)

verdict_takes : (bytes : List ℕ) (x : Verdict × List ℕ) → IsBytes bytes → verdict_at bytes ≡ Some x → Takes bytes (verdict_bytes x.0) x.1 × IsVerdict x.0
unfolding verdict_at
verdict_takes [] x fits e = absurd cc
verdict_takes (zero ∷ bytes) x fits e = absurd cc
verdict_takes (suc zero ∷ bytes) x fits e = taken_takes bytes x (λ i. fits (suc i)) e
verdict_takes (suc (suc zero) ∷ bytes) x fits e = refused_takes bytes x (λ i. fits (suc i)) e
verdict_takes (suc (suc (suc b)) ∷ bytes) x fits e = absurd (grind (arith, nat_tests))

-- a refusal that is kept has a number that fits
recorded_small : (r : Reject) → IsTrue (is_recorded r) → r.code < 2 ^ 16
recorded_small r h = grind (arith, nat_tests)

recorded_letter : (r : Reject) → IsTrue (is_recorded r) → r.category < 256
recorded_letter r h = grind (arith, nat_tests)

verdict_again : (v : Verdict) (rest : List ℕ) → IsVerdict v → verdict_at (verdict_bytes v ++ rest) ≡ Some (v, rest)
unfolding verdict_at taken_at refused_at
verdict_again (Taken d n) rest fit =
    ap (λ (l : List ℕ). verdict_at (1 ∷ l)) (append_assoc d (number n) rest)
    ∙ step_again piece IsEndpoint endpoint_at endpoint_reads (λ (d : List ℕ × List ℕ). seq_at d.1 >>= λ n. Some (Taken d.0 n.0, n.1)) d (number n ++ rest) fit.0
    ∙ step_again number IsSeq seq_at seq_reads (λ (n : ℕ × List ℕ). Some (Taken d n.0, n.1)) n rest fit.1
verdict_again (Refused r) rest fit =
    step_again (to_be_bytes w16) (λ n. n < 2 ^ 16) (number_at w16) reads16 (refusing r.category) r.code rest (recorded_small r fit)
    ∙ ap (λ b. cond b (Some (Refused r, rest)) None) fit

pub verdict_reads : Reads verdict_bytes IsVerdict verdict_at
verdict_reads = record { takes = verdict_takes; again = verdict_again }

abbrev p4 : Head → Bool → ℕ → Verdict × List ℕ → Option (Entry × List ℕ)
p4 h f m v = body_at v.1 >>= λ b. Some (Posted h b.0 f m v.0, b.1)

abbrev p3 : Head → Bool → ℕ × List ℕ → Option (Entry × List ℕ)
p3 h f m = verdict_at m.1 >>= p4 h f m.0

abbrev p2 : Head → Bool × List ℕ → Option (Entry × List ℕ)
p2 h f = moment_at f.1 >>= p3 h f.0

abbrev p1 : Head × List ℕ → Option (Entry × List ℕ)
p1 h = flag_at h.1 >>= p2 h.0

abbrev marked : Bool → List ℕ
marked f = flag f ∷ []

posted_takes : (bytes : List ℕ) (x : Entry × List ℕ) → IsBytes bytes → posted_at bytes ≡ Some x → Takes (80 ∷ bytes) (entry_bytes x.0) x.1 × IsEntry x.0
unfolding posted_at
posted_takes bytes x fits e =
    let h = step head_bytes IsHead head_at head_reads p1 bytes x fits e in
    let f = step marked (λ b. Unit {0}) flag_at flag_reads (p2 h.0.0) h.0.1 x h.1.fits h.3 in
    let m = step number IsMoment moment_at moment_reads (p3 h.0.0 f.0.0) f.0.1 x f.1.fits f.3 in
    let v = step verdict_bytes IsVerdict verdict_at verdict_reads (p4 h.0.0 f.0.0 m.0.0) m.0.1 x m.1.fits m.3 in
    let b = step body_bytes IsBody body_at body_reads (λ (b : List ℕ × List ℕ). Some (Posted h.0.0 b.0 f.0.0 m.0.0 v.0.0, b.1)) v.0.1 x v.1.fits v.3 in
    let t4 = then_takes m.0.1 (verdict_bytes v.0.0) v.0.1 (body_bytes b.0.0) b.0.1 v.1 b.1 in
    let t3 = then_takes f.0.1 (number m.0.0) m.0.1 (verdict_bytes v.0.0 ++ body_bytes b.0.0) b.0.1 m.1 t4 in
    let t2 = then_takes h.0.1 (marked f.0.0) f.0.1 (number m.0.0 ++ (verdict_bytes v.0.0 ++ body_bytes b.0.0)) b.0.1 f.1 t3 in
    let t1 = then_takes bytes (head_bytes h.0.0) h.0.1 (marked f.0.0 ++ (number m.0.0 ++ (verdict_bytes v.0.0 ++ body_bytes b.0.0))) b.0.1 h.1 t2 in
    subst (λ (y : Entry × List ℕ). Takes (80 ∷ bytes) (entry_bytes y.0) y.1 × IsEntry y.0) (some_is (Posted h.0.0 b.0.0 f.0.0 m.0.0 v.0.0, b.0.1) x b.3)
    (record { parts = ap (λ (l : List ℕ). 80 ∷ l) t1.parts; fits = t1.fits }, (h.2, m.2, v.2, b.2))

roll_takes : (bytes : List ℕ) (x : Entry × List ℕ) → IsBytes bytes → roll_at bytes ≡ Some x → Takes (82 ∷ bytes) (entry_bytes x.0) x.1 × IsEntry x.0
unfolding roll_at
roll_takes bytes x fits e =
    let m = step number IsMoment moment_at moment_reads (λ (m : ℕ × List ℕ). date_at m.1 >>= λ d. Some (Roll m.0 d.0, d.1)) bytes x fits e in
    let d = step number IsDay date_at date_reads (λ (d : ℕ × List ℕ). Some (Roll m.0.0 d.0, d.1)) m.0.1 x m.1.fits m.3 in
    let t = then_takes bytes (number m.0.0) m.0.1 (number d.0.0) d.0.1 m.1 d.1 in
    subst (λ (y : Entry × List ℕ). Takes (82 ∷ bytes) (entry_bytes y.0) y.1 × IsEntry y.0) (some_is (Roll m.0.0 d.0.0, d.0.1) x d.3)
    (record { parts = ap (λ (l : List ℕ). 82 ∷ l) t.parts; fits = t.fits }, (m.2, d.2))

entry_takes : (bytes : List ℕ) (x : Entry × List ℕ) → IsBytes bytes → entry_at bytes ≡ Some x → Takes bytes (entry_bytes x.0) x.1 × IsEntry x.0
unfolding entry_at
entry_takes [] x fits e = absurd cc
entry_takes (b ∷ bytes) x fits e =
    ⊎_elim (λ p. subst (λ k. Takes (k ∷ bytes) (entry_bytes x.0) x.1 × IsEntry x.0) (sym (eqb-true b 80 p.0)) (posted_takes bytes x (λ i. fits (suc i)) p.1))
    (λ other.
    let r = chosen (b == 82) (roll_at bytes) x other in
    subst (λ k. Takes (k ∷ bytes) (entry_bytes x.0) x.1 × IsEntry x.0) (sym (eqb-true b 82 r.0)) (roll_takes bytes x (λ i. fits (suc i)) r.1))
    (either_some (b == 80) (posted_at bytes) (cond (b == 82) (roll_at bytes) None) x e)

posted_again : (h : Head) (b : List ℕ) (f : Bool) (m : ℕ) (v : Verdict) (rest : List ℕ) → IsHead h → IsMoment m → IsVerdict v → IsBody b → posted_at ((head_bytes h ++ (marked f ++ (number m ++ (verdict_bytes v ++ body_bytes b)))) ++ rest) ≡ Some (Posted h b f m v, rest)
unfolding posted_at
posted_again h b f m v rest hh hm hv hb =
    let grouped : (head_bytes h ++ (marked f ++ (number m ++ (verdict_bytes v ++ body_bytes b)))) ++ rest ≡ head_bytes h ++ (marked f ++ (number m ++ (verdict_bytes v ++ (body_bytes b ++ rest)))) =
    append_assoc (head_bytes h) (marked f ++ (number m ++ (verdict_bytes v ++ body_bytes b))) rest
    ∙ ap (λ (t : List ℕ). head_bytes h ++ (marked f ++ t)) (append_assoc (number m) (verdict_bytes v ++ body_bytes b) rest
    ∙ ap (λ (t : List ℕ). number m ++ t) (append_assoc (verdict_bytes v) (body_bytes b) rest)) in
    ap posted_at grouped
    ∙ step_again head_bytes IsHead head_at head_reads p1 h (marked f ++ (number m ++ (verdict_bytes v ++ (body_bytes b ++ rest)))) hh
    ∙ step_again marked (λ b. Unit {0}) flag_at flag_reads (p2 h) f (number m ++ (verdict_bytes v ++ (body_bytes b ++ rest))) tt
    ∙ step_again number IsMoment moment_at moment_reads (p3 h f) m (verdict_bytes v ++ (body_bytes b ++ rest)) hm
    ∙ step_again verdict_bytes IsVerdict verdict_at verdict_reads (p4 h f m) v (body_bytes b ++ rest) hv
    ∙ step_again body_bytes IsBody body_at body_reads (λ (y : List ℕ × List ℕ). Some (Posted h y.0 f m v, y.1)) b rest hb

roll_again : (m d : ℕ) (rest : List ℕ) → IsMoment m → IsDay d → roll_at ((number m ++ number d) ++ rest) ≡ Some (Roll m d, rest)
unfolding roll_at
roll_again m d rest hm hd =
    ap roll_at (append_assoc (number m) (number d) rest)
    ∙ step_again number IsMoment moment_at moment_reads (λ (m : ℕ × List ℕ). date_at m.1 >>= λ d. Some (Roll m.0 d.0, d.1)) m (number d ++ rest) hm
    ∙ step_again number IsDay date_at date_reads (λ (d : ℕ × List ℕ). Some (Roll m d.0, d.1)) d rest hd

pub entry_again : (e : Entry) (rest : List ℕ) → IsEntry e → entry_at (entry_bytes e ++ rest) ≡ Some (e, rest)
unfolding entry_at
entry_again (Posted h b f m v) rest fit = posted_again h b f m v rest fit.0 fit.1 fit.2 fit.3
entry_again (Roll m d) rest fit = roll_again m d rest fit.0 fit.1

-- each spelling and what follows it is read as its entry
pub entry_reads : Reads entry_bytes IsEntry entry_at
entry_reads = record { takes = entry_takes; again = entry_again }

-- no spelling begins another
pub one_entry : (a b : Entry) (x y : List ℕ) → IsEntry a → IsEntry b → entry_bytes a ++ x ≡ entry_bytes b ++ y → (a ≡ b) × (x ≡ y)
one_entry = one_front entry_bytes IsEntry entry_at entry_again
