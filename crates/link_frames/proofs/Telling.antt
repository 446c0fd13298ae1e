-- Which fault the bytes at a frame's place show, and what an end says.
use Rattle.std.proofs.Common.{◌≡◌, ◌↔◌, ◌⊎◌, ⊎_elim, inl, inr, ℕ, zero, suc, ◌<◌, ◌≤◌, Bool, true, false, nat_le, nat_lt, List, [], ◌∷◌, length, take, drop, get_or, if◌then◌else◌, Option, Some, None, Ok, Err, is_some, refl, sym, ◌∙◌, ap, subst, arith, length-drop}
use Rattle.std.specs.List.{list_all}
use Rattle.std.proofs.lemmas.Bool.{cases_lt, and_cases, and_left, and_right, and_from, le-ltb, lt-leb, le-leb, leb-false}
use Rattle.faim_base.specs.Text.{is_name_byte}
use Rattle.link_frames.specs.declared.fault.FrameFault.{FrameFault}
use Rattle.link_frames.specs.declared.fault.FrameFault.TheVariants.{BadLength, BadKind, BadEndpoint, CutFrame}
use Rattle.link_frames.specs.declared.frame.FrameKind.{FrameKind}
use Rattle.link_frames.specs.declared.frame.FrameKind.TheVariants.{Submit, Retrieve, Ack, Output, Roll, Draft, Tick}
use Rattle.link_frames.specs.Kinds.{kind_byte, kind_of}
use Rattle.link_frames.specs.Splits.{fault_at, kind_fault, endpoint_fault, length_at, may_be_length, fault_or_cut, end_at}
use Rattle.link_frames.proofs.Fronts.{fault_by, fault_four, lengths}
use Rattle.link_frames.proofs.Shapes.{cons_at, kind_read, kind_written, some_from}

-- the bytes that are kinds
kind_range : (k : FrameKind) → (1 ≤ kind_byte k) × (kind_byte k ≤ 7)
kind_range Submit = (omega arith, omega arith)
kind_range Retrieve = (omega arith, omega arith)
kind_range Ack = (omega arith, omega arith)
kind_range Output = (omega arith, omega arith)
kind_range Roll = (omega arith, omega arith)
kind_range Draft = (omega arith, omega arith)
kind_range Tick = (omega arith, omega arith)

known_range : (b : ℕ) → is_some (kind_of b) ≡ true → (1 ≤ b) × (b ≤ 7)
known_range b e =
    let k = some_from (kind_of b) e in
    let same = kind_read b k.0 k.1 in
    let r = kind_range k.0 in
    (omega (arith, same, r.0), omega (arith, same, r.1))

kind_at : (b : ℕ) → 1 ≤ b → b ≤ 7 → (k : FrameKind) × (kind_byte k ≡ b)
kind_at zero low high = absurd (omega (arith, low))
kind_at (suc zero) low high = (Submit, refl)
kind_at (suc (suc zero)) low high = (Retrieve, refl)
kind_at (suc (suc (suc zero))) low high = (Ack, refl)
kind_at (suc (suc (suc (suc zero)))) low high = (Output, refl)
kind_at (suc (suc (suc (suc (suc zero))))) low high = (Roll, refl)
kind_at (suc (suc (suc (suc (suc (suc zero)))))) low high = (Draft, refl)
kind_at (suc (suc (suc (suc (suc (suc (suc zero))))))) low high = (Tick, refl)
kind_at (suc (suc (suc (suc (suc (suc (suc (suc n)))))))) low high = absurd (omega (arith, high))

range_known : (b : ℕ) → 1 ≤ b → b ≤ 7 → is_some (kind_of b) ≡ true
range_known b low high =
    let k = kind_at b low high in
    ap (λ n. is_some (kind_of n)) (sym k.1) ∙ ap (λ (o : Option FrameKind). is_some o) (kind_written k.0)

unknown_range : (b : ℕ) → is_some (kind_of b) ≡ false → (b ≡ 0) ⊎ (7 < b)
unknown_range b e = ⊎_elim
    (λ (high : 7 < b). inr high)
    (λ (le : b ≤ 7). ⊎_elim
    (λ (low : 0 < b). let h = range_known b (omega (arith, low)) le in absurd (cc))
    (λ (none : b ≤ 0). let z : b ≡ 0 = omega (arith, none) in inl z)
    (cases_lt 0 b))
    (cases_lt 7 b)

by_known : (b : ℕ) (known : Bool) → is_some (kind_of b) ≡ known → (b ≡ 0) ⊎ (7 < b) → known ≡ false
by_known b false e out = refl
by_known b true e out = let r = known_range b e in ⊎_elim (λ z. absurd (omega (arith, r.0, z))) (λ h. absurd (omega (arith, r.1, h))) out

-- the fault of the length, or else that of what comes after it
told_by : (short may : Bool) (n : ℕ) (k : Option FrameFault) (e : FrameFault) → (if short then None else (if may then k else Some (BadLength n))) ≡ Some e → ((may ≡ false) × (e ≡ BadLength n)) ⊎ ((may ≡ true) × (k ≡ Some e))
told_by true may n k e f = absurd (cc)
told_by false true n k e f = inr (refl, f)
told_by false false n k e f = let same : e ≡ BadLength n = cc in inl (refl, same)

told : (x : List ℕ) (e : FrameFault) → fault_at x ≡ Some e → ((may_be_length (length_at x) ≡ false) × (e ≡ BadLength (length_at x))) ⊎ ((may_be_length (length_at x) ≡ true) × (kind_fault (drop 4 x) ≡ Some e))
told x e f = told_by (nat_lt (length x) 4) (may_be_length (length_at x)) (length_at x) (kind_fault (drop 4 x)) e f

pub record Kinded (z : List ℕ) (e : FrameFault) : Type 0 where
  pub kind : ℕ
  pub over : List ℕ
  pub is : z ≡ kind ∷ over
  pub which : ((is_some (kind_of kind) ≡ false) × (e ≡ BadKind kind)) ⊎ ((is_some (kind_of kind) ≡ true) × (list_all is_name_byte (take 8 over) ≡ false) × (e ≡ BadEndpoint))

which_by : (known named : Bool) (k : ℕ) (e : FrameFault) → (if known then (if named then None else Some BadEndpoint) else Some (BadKind k)) ≡ Some e → ((known ≡ false) × (e ≡ BadKind k)) ⊎ ((known ≡ true) × (named ≡ false) × (e ≡ BadEndpoint))
which_by false named k e f = let same : e ≡ BadKind k = cc in inl (refl, same)
which_by true true k e f = absurd (cc)
which_by true false k e f = let same : e ≡ BadEndpoint = cc in inr (refl, refl, same)

kinded : (z : List ℕ) (e : FrameFault) → kind_fault z ≡ Some e → Kinded z e
kinded [] e f = absurd (cc)
kinded (k ∷ rest) e f = record { kind = k; over = rest; is = refl; which = which_by (is_some (kind_of k)) (list_all is_name_byte (take 8 rest)) k e f }

from : (x : List ℕ) → 4 ≤ length x → (may : Bool) → may_be_length (length_at x) ≡ may → fault_at x ≡ (if may then kind_fault (drop 4 x) else Some (BadLength (length_at x)))
from x four may e =
    ap (λ b. fault_by b (length_at x) (kind_fault (drop 4 x))) (le-ltb (length x) 4 four)
    ∙ ap (λ b. if b then kind_fault (drop 4 x) else Some (BadLength (length_at x))) e

out_of_lengths : (n : ℕ) → may_be_length n ≡ false → (n < 9) ⊎ (8201 < n)
out_of_lengths n e = ⊎_elim
    (λ (a : nat_le 9 n ≡ false). inl (leb-false 9 n a))
    (λ (b : nat_le n 8201 ≡ false). inr (leb-false n 8201 b))
    (and_cases (nat_le 9 n) (nat_le n 8201) e)

out_from : (n : ℕ) → (n < 9) ⊎ (8201 < n) → may_be_length n ≡ false
out_from n out = ⊎_elim
    (λ (low : n < 9). and_left (nat_le 9 n) (nat_le n 8201) (lt-leb 9 n low))
    (λ (high : 8201 < n). and_right (nat_le 9 n) (nat_le n 8201) (lt-leb n 8201 high))
    out

pub bad_length : (x : List ℕ) (n : ℕ) → (fault_at x ≡ Some (BadLength n)) ↔ ((4 ≤ length x) × (n ≡ length_at x) × ((n < 9) ⊎ (8201 < n)))
bad_length x n = (
  λ f. ⊎_elim
      (λ (a : (may_be_length (length_at x) ≡ false) × (BadLength n ≡ BadLength (length_at x))).
      let same : n ≡ length_at x = let e = a.1 in cc in
      (fault_four x (BadLength n) f, same, subst (λ m. (m < 9) ⊎ (8201 < m)) (sym same) (out_of_lengths (length_at x) a.0)))
      (λ (b : (may_be_length (length_at x) ≡ true) × (kind_fault (drop 4 x) ≡ Some (BadLength n))).
      absurd (⊎_elim (λ p. let e = p.1 in cc) (λ p. let e = p.2 in cc) (kinded (drop 4 x) (BadLength n) b.1).which))
      (told x (BadLength n) f),
  λ h.
      from x h.0 false (out_from (length_at x) (subst (λ m. (m < 9) ⊎ (8201 < m)) h.1 h.2))
      ∙ ap (λ m. Some (BadLength m)) (sym h.1),
)

-- the part of the kind, where there is one
at_kind : (x over : List ℕ) (k : ℕ) → drop 4 x ≡ k ∷ over → (5 ≤ length x) × (k ≡ get_or x 4 0) × (over ≡ drop 5 x)
at_kind x over k is = ⊎_elim
    (λ (lt : 4 < length x).
    let both : k ∷ over ≡ get_or x 4 0 ∷ drop 5 x = sym is ∙ cons_at x 4 lt in
    let a : k ≡ get_or x 4 0 = cc in
    let b : over ≡ drop 5 x = cc in
    (omega (arith, lt), a, b))
    (λ (le : length x ≤ 4). absurd (omega (arith, le, ap (λ (l : List ℕ). length l) is, length-drop 4 x)))
    (cases_lt 4 (length x))

kind_from : (x : List ℕ) → 5 ≤ length x → 9 ≤ length_at x → length_at x ≤ 8201 → fault_at x ≡ kind_fault (get_or x 4 0 ∷ drop 5 x)
kind_from x five low high =
    from x (omega (arith, five)) true (and_from (nat_le 9 (length_at x)) (nat_le (length_at x) 8201) (le-leb 9 (length_at x) low) (le-leb (length_at x) 8201 high))
    ∙ ap kind_fault (cons_at x 4 (omega (arith, five)))

pub bad_kind : (x : List ℕ) (k : ℕ) → (fault_at x ≡ Some (BadKind k)) ↔ ((5 ≤ length x) × (9 ≤ length_at x) × (length_at x ≤ 8201) × (k ≡ get_or x 4 0) × ((k ≡ 0) ⊎ (7 < k)))
bad_kind x k = (
  λ f. ⊎_elim
      (λ (a : (may_be_length (length_at x) ≡ false) × (BadKind k ≡ BadLength (length_at x))). let e = a.1 in absurd (cc))
      (λ (b : (may_be_length (length_at x) ≡ true) × (kind_fault (drop 4 x) ≡ Some (BadKind k))).
      let t = kinded (drop 4 x) (BadKind k) b.1 in
      let s = at_kind x t.over t.kind t.is in
      let r = lengths (length_at x) b.0 in
      ⊎_elim
      (λ (p : (is_some (kind_of t.kind) ≡ false) × (BadKind k ≡ BadKind t.kind)).
      let same : k ≡ t.kind = let e = p.1 in cc in
      (s.0, r.0, r.1, same ∙ s.1, subst (λ m. (m ≡ 0) ⊎ (7 < m)) (sym same) (unknown_range t.kind p.0)))
      (λ (p : (is_some (kind_of t.kind) ≡ true) × (list_all is_name_byte (take 8 t.over) ≡ false) × (BadKind k ≡ BadEndpoint)). let e = p.2 in absurd (cc))
      t.which)
      (told x (BadKind k) f),
  λ h.
      kind_from x h.0 h.1 h.2
      ∙ ap (λ m. kind_fault (m ∷ drop 5 x)) (sym h.3)
      ∙ ap (λ b. if b then endpoint_fault (take 8 (drop 5 x)) else Some (BadKind k)) (by_known k (is_some (kind_of k)) refl h.4),
)

pub bad_endpoint : (x : List ℕ) → (fault_at x ≡ Some BadEndpoint) ↔ ((5 ≤ length x) × (9 ≤ length_at x) × (length_at x ≤ 8201) × (1 ≤ get_or x 4 0) × (get_or x 4 0 ≤ 7) × (list_all is_name_byte (take 8 (drop 5 x)) ≡ false))
bad_endpoint x = (
  λ f. ⊎_elim
      (λ (a : (may_be_length (length_at x) ≡ false) × (BadEndpoint ≡ BadLength (length_at x))). let e = a.1 in absurd (cc))
      (λ (b : (may_be_length (length_at x) ≡ true) × (kind_fault (drop 4 x) ≡ Some BadEndpoint)).
      let t = kinded (drop 4 x) BadEndpoint b.1 in
      let s = at_kind x t.over t.kind t.is in
      let r = lengths (length_at x) b.0 in
      ⊎_elim
      (λ (p : (is_some (kind_of t.kind) ≡ false) × (BadEndpoint ≡ BadKind t.kind)). let e = p.1 in absurd (cc))
      (λ (p : (is_some (kind_of t.kind) ≡ true) × (list_all is_name_byte (take 8 t.over) ≡ false) × (BadEndpoint ≡ BadEndpoint)).
      let q = known_range t.kind p.0 in
      (s.0, r.0, r.1, omega (arith, q.0, s.1), omega (arith, q.1, s.1), ap (λ (l : List ℕ). list_all is_name_byte (take 8 l)) (sym s.2) ∙ p.1))
      t.which)
      (told x BadEndpoint f),
  λ h.
      kind_from x h.0 h.1 h.2
      ∙ ap (λ b. if b then endpoint_fault (take 8 (drop 5 x)) else Some (BadKind (get_or x 4 0))) (range_known (get_or x 4 0) h.3 h.4)
      ∙ ap (λ b. if b then None else Some BadEndpoint) h.5,
)

-- no bytes show that a frame is cut off
pub no_cut : (x : List ℕ) (n : ℕ) → fault_at x ≡ Some (CutFrame n) → ⊥
no_cut x n f = ⊎_elim
    (λ (a : (may_be_length (length_at x) ≡ false) × (CutFrame n ≡ BadLength (length_at x))). let e = a.1 in cc)
    (λ (b : (may_be_length (length_at x) ≡ true) × (kind_fault (drop 4 x) ≡ Some (CutFrame n))).
    let t = kinded (drop 4 x) (CutFrame n) b.1 in
    ⊎_elim
    (λ (p : (is_some (kind_of t.kind) ≡ false) × (CutFrame n ≡ BadKind t.kind)). let e = p.1 in cc)
    (λ (p : (is_some (kind_of t.kind) ≡ true) × (list_all is_name_byte (take 8 t.over) ≡ false) × (CutFrame n ≡ BadEndpoint)). let e = p.2 in cc)
    t.which)
    (told x (CutFrame n) f)

-- what an end says
good_by : (o : Option FrameFault) (x : List ℕ) → fault_or_cut o x ≡ Ok tt → x ≡ []
good_by None [] e = refl
good_by None (b ∷ x) e = absurd (cc)
good_by (Some f) x e = absurd (cc)

pub good_end : (x : List ℕ) → (end_at x ≡ Ok tt) ↔ (x ≡ [])
good_end x = (λ e. good_by (fault_at x) x e, λ e. ap end_at e)

cut_by : (o : Option FrameFault) (x : List ℕ) (n : ℕ) → fault_at x ≡ o → fault_or_cut o x ≡ Err (CutFrame n) → (o ≡ None) × (n ≡ length x) × (1 ≤ n)
cut_by None [] n is e = absurd (cc)
cut_by None (b ∷ x) n is e = let same : n ≡ length (b ∷ x) = cc in (refl, same, omega (arith, same))
cut_by (Some f) x n is e = let same : f ≡ CutFrame n = cc in absurd (no_cut x n (is ∙ ap (λ g. Some g) same))

cut_from : (x : List ℕ) → 1 ≤ length x → fault_or_cut None x ≡ Err (CutFrame (length x))
cut_from [] le = absurd (omega (arith, le))
cut_from (b ∷ x) le = refl

pub cut_end : (x : List ℕ) (n : ℕ) → (end_at x ≡ Err (CutFrame n)) ↔ ((fault_at x ≡ None) × (n ≡ length x) × (1 ≤ n))
cut_end x n = (
  λ e. cut_by (fault_at x) x n refl e,
  λ h.
      ap (λ (o : Option FrameFault). fault_or_cut o x) h.0
      ∙ cut_from x (omega (arith, h.1, h.2))
      ∙ ap (λ m. Err (CutFrame m)) (sym h.1),
)
