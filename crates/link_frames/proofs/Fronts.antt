-- What the first bytes at a frame's place say, whatever stands after them.
use Rattle.std.proofs.Common.{◌≡◌, ⊎_elim, ℕ, ◌+◌, ◌-◌, ◌<◌, ◌≤◌, ◌&&◌, Bool, true, false, nat_le, nat_lt, List, [], ◌∷◌, ◌++◌, length, take, drop, if◌then◌else◌, Option, Some, None, is_some, is_none, refl, sym, ◌∙◌, ap, arith, append-nil, length-append, length-take}
use Rattle.std.specs.Int.{from_be_bytes, w32}
use Rattle.std.specs.List.{list_all}
use Rattle.std.proofs.Math.Seq.{take-append-add}
use Rattle.std.proofs.lemmas.Bool.{cases_lt, and_parts, and_from, lt-ltb, le-ltb, le-leb, leb-true}
use Rattle.std.proofs.lemmas.List.{take-take, take-append-le, drop-append-le, drop-take, take_all}
use Rattle.std.proofs.lemmas.List.Folds.{list_all-append}
use Rattle.faim_base.specs.Text.{is_name_byte}
use Rattle.link_frames.specs.declared.fault.FrameFault.{FrameFault}
use Rattle.link_frames.specs.declared.fault.FrameFault.TheVariants.{BadLength, BadKind, BadEndpoint}
use Rattle.link_frames.specs.Kinds.{kind_of}
use Rattle.link_frames.specs.Splits.{fault_at, kind_fault, endpoint_fault, length_at, size_at, may_be_length, is_whole}

-- the fault by the parts that it is told from
abbrev pub fault_by : Bool → ℕ → Option FrameFault → Option FrameFault
fault_by short n kind = if short then None else (if may_be_length n then kind else Some (BadLength n))

pub fault_parts : (a b : Bool) (m n : ℕ) (j k : Option FrameFault) → a ≡ b → m ≡ n → j ≡ k → fault_by a m j ≡ fault_by b n k
fault_parts a b m n j k p q r = ap (λ x. fault_by x m j) p ∙ ap (λ x. fault_by b x j) q ∙ ap (λ x. fault_by b n x) r

-- the kind and the endpoint are told from nine bytes
kind_front : (z : List ℕ) → kind_fault (take 9 z) ≡ kind_fault z
kind_front [] = refl
kind_front (k ∷ rest) = ap (λ (l : List ℕ). if is_some (kind_of k) then endpoint_fault l else Some (BadKind k)) (take-take 8 8 rest (omega arith))

short_front : (x : List ℕ) → nat_lt (length (take 13 x)) 4 ≡ nat_lt (length x) 4
short_front x = ⊎_elim
    (λ lt. lt-ltb (length (take 13 x)) 4 (omega (arith, lt, length-take 13 x)) ∙ sym (lt-ltb (length x) 4 lt))
    (λ le. le-ltb (length (take 13 x)) 4 (omega (arith, le, length-take 13 x)) ∙ sym (le-ltb (length x) 4 le))
    (cases_lt (length x) 4)

-- a fault is told from thirteen bytes
pub fault_front : (x : List ℕ) → fault_at (take 13 x) ≡ fault_at x
fault_front x = fault_parts (nat_lt (length (take 13 x)) 4) (nat_lt (length x) 4) (length_at (take 13 x)) (length_at x) (kind_fault (drop 4 (take 13 x))) (kind_fault (drop 4 x))
    (short_front x)
    (ap (from_be_bytes w32) (take-take 4 13 x (omega arith)))
    (ap kind_fault (drop-take 4 9 x) ∙ kind_front (drop 4 x))

pub fault_same : (x y : List ℕ) → take 13 x ≡ take 13 y → fault_at x ≡ fault_at y
fault_same x y e = sym (fault_front x) ∙ ap fault_at e ∙ fault_front y

pub size_more : (a b : List ℕ) → 4 ≤ length a → size_at (a ++ b) ≡ size_at a
size_more a b le = ap (λ (l : List ℕ). 4 + from_be_bytes w32 l) (take-append-le 4 a b le)

-- a length that may be one
pub lengths : (n : ℕ) → may_be_length n ≡ true → (9 ≤ n) × (n ≤ 8201)
lengths n e = let both = and_parts (nat_le 9 n) (nat_le n 8201) e in (leb-true 9 n both.0, leb-true n 8201 both.1)

sized_by : (short may : Bool) (n : ℕ) (k : Option FrameFault) → short ≡ false → (if short then None else (if may then k else Some (BadLength n))) ≡ None → (may ≡ true) × (k ≡ None)
sized_by true may n k e f = cc
sized_by false true n k e f = (refl, f)
sized_by false false n k e f = absurd (cc)

-- without a fault the length is one that a frame may have, and the rest shows none
pub no_fault : (x : List ℕ) → 4 ≤ length x → fault_at x ≡ None → (may_be_length (length_at x) ≡ true) × (kind_fault (drop 4 x) ≡ None)
no_fault x le e = sized_by (nat_lt (length x) 4) (may_be_length (length_at x)) (length_at x) (kind_fault (drop 4 x)) (le-ltb (length x) 4 le) e

pub no_fault_from : (x : List ℕ) → may_be_length (length_at x) ≡ true → kind_fault (drop 4 x) ≡ None → 4 ≤ length x → fault_at x ≡ None
no_fault_from x may kind le =
    ap (λ b. fault_by b (length_at x) (kind_fault (drop 4 x))) (le-ltb (length x) 4 le)
    ∙ ap (λ b. if b then kind_fault (drop 4 x) else Some (BadLength (length_at x))) may
    ∙ kind

pub sized : (x : List ℕ) → 4 ≤ length x → fault_at x ≡ None → (13 ≤ size_at x) × (size_at x ≤ 8205)
sized x le e = let both = lengths (length_at x) (no_fault x le e).0 in (omega (arith, both.0), omega (arith, both.1))

is_none_true : (o : Option FrameFault) → is_none o ≡ true → o ≡ None
is_none_true None e = refl
is_none_true (Some f) e = absurd (cc)

pub none_from : (o : Option FrameFault) → is_some o ≡ false → o ≡ None
none_from None e = refl
none_from (Some f) e = absurd (cc)

pub record Whole (x : List ℕ) : Type 0 where
  pub four : 4 ≤ length x
  pub fits : size_at x ≤ length x
  pub none : fault_at x ≡ None

pub whole : (x : List ℕ) → is_whole x ≡ true → Whole x
whole x e =
    let a = and_parts (nat_le 4 (length x)) (nat_le (size_at x) (length x) && is_none (fault_at x)) e in
    let b = and_parts (nat_le (size_at x) (length x)) (is_none (fault_at x)) a.1 in
    record { four = leb-true 4 (length x) a.0; fits = leb-true (size_at x) (length x) b.0; none = is_none_true (fault_at x) b.1 }

pub whole_from : (x : List ℕ) → 4 ≤ length x → size_at x ≤ length x → fault_at x ≡ None → is_whole x ≡ true
whole_from x four fits none = and_from (nat_le 4 (length x)) (nat_le (size_at x) (length x) && is_none (fault_at x)) (le-leb 4 (length x) four)
    (and_from (nat_le (size_at x) (length x)) (is_none (fault_at x)) (le-leb (size_at x) (length x) fits) (ap (λ (o : Option FrameFault). is_none o) none))

-- a fault stays whatever comes after it
pub take_more_of : (n : ℕ) (a b : List ℕ) → take n (a ++ b) ≡ take n a ++ take (n - length a) b
take_more_of n a b = ⊎_elim
    (λ (lt : n < length a).
    take-append-le n a b (omega (arith, lt))
    ∙ sym (append-nil (take n a))
    ∙ ap (λ k. take n a ++ take k b) (let e : 0 ≡ n - length a = omega (arith, lt) in e))
    (λ (le : length a ≤ n).
    ap (λ k. take k (a ++ b)) (let e : n ≡ length a + (n - length a) = omega (arith, le) in e)
    ∙ take-append-add a b (n - length a)
    ∙ ap (λ (l : List ℕ). l ++ take (n - length a) b) (sym (take_all n a le)))
    (cases_lt n (length a))

endpoint_by : (a b c : Bool) (e : FrameFault) → c ≡ (a && b) → (if a then None else Some BadEndpoint) ≡ Some e → (if c then None else Some BadEndpoint) ≡ Some e
endpoint_by true b c e is f = absurd (cc)
endpoint_by false b c e is f = ap (λ (x : Bool). if x then None else Some BadEndpoint) is ∙ f

endpoint_stays : (a b : List ℕ) (e : FrameFault) → endpoint_fault (take 8 a) ≡ Some e → endpoint_fault (take 8 (a ++ b)) ≡ Some e
endpoint_stays a b e f = endpoint_by (list_all is_name_byte (take 8 a)) (list_all is_name_byte (take (8 - length a) b)) (list_all is_name_byte (take 8 (a ++ b))) e
    (ap (list_all is_name_byte) (take_more_of 8 a b) ∙ list_all-append is_name_byte (take 8 a) (take (8 - length a) b))
    f

kind_by : (known : Bool) (k : ℕ) (a b : Option FrameFault) (e : FrameFault) → (a ≡ Some e → b ≡ Some e) → (if known then a else Some (BadKind k)) ≡ Some e → (if known then b else Some (BadKind k)) ≡ Some e
kind_by true k a b e on f = on f
kind_by false k a b e on f = f

pub kind_stays : (z b : List ℕ) (e : FrameFault) → kind_fault z ≡ Some e → kind_fault (z ++ b) ≡ Some e
kind_stays [] b e f = absurd (cc)
kind_stays (k ∷ rest) b e f = kind_by (is_some (kind_of k)) k (endpoint_fault (take 8 rest)) (endpoint_fault (take 8 (rest ++ b))) e (endpoint_stays rest b e) f

stays_by : (short may : Bool) (n : ℕ) (j k : Option FrameFault) (e : FrameFault) → (j ≡ Some e → k ≡ Some e) → (if short then None else (if may then j else Some (BadLength n))) ≡ Some e → (short ≡ false) × ((if may then k else Some (BadLength n)) ≡ Some e)
stays_by true may n j k e on f = absurd (cc)
stays_by false true n j k e on f = (refl, on f)
stays_by false false n j k e on f = (refl, f)

four_by : (n : ℕ) → nat_lt n 4 ≡ false → 4 ≤ n
four_by n e = ⊎_elim (λ lt. let h : nat_lt n 4 ≡ true = lt-ltb n 4 lt in absurd (cc)) (λ le. le) (cases_lt n 4)

pub fault_four : (a : List ℕ) (e : FrameFault) → fault_at a ≡ Some e → 4 ≤ length a
fault_four a e f = four_by (length a) (stays_by (nat_lt (length a) 4) (may_be_length (length_at a)) (length_at a) (kind_fault (drop 4 a)) (kind_fault (drop 4 a)) e (λ g. g) f).0

pub fault_stays : (a b : List ℕ) (e : FrameFault) → fault_at a ≡ Some e → fault_at (a ++ b) ≡ Some e
fault_stays a b e f =
    let four = fault_four a e f in
    let on : kind_fault (drop 4 a) ≡ Some e → kind_fault (drop 4 (a ++ b)) ≡ Some e = λ g. ap kind_fault (drop-append-le 4 a b four) ∙ kind_stays (drop 4 a) b e g in
    let both = stays_by (nat_lt (length a) 4) (may_be_length (length_at a)) (length_at a) (kind_fault (drop 4 a)) (kind_fault (drop 4 (a ++ b))) e on f in
    fault_parts (nat_lt (length (a ++ b)) 4) false (length_at (a ++ b)) (length_at a) (kind_fault (drop 4 (a ++ b))) (kind_fault (drop 4 (a ++ b)))
    (le-ltb (length (a ++ b)) 4 (omega (arith, four, length-append a b)))
    (ap (from_be_bytes w32) (take-append-le 4 a b four))
    refl
    ∙ both.1

-- where a fault is, no whole frame stands
pub fault_not_whole : (a : List ℕ) (e : FrameFault) → fault_at a ≡ Some e → is_whole a ≡ false
fault_not_whole a e f = by_test (is_whole a) refl where
  by_test : (b : Bool) → is_whole a ≡ b → b ≡ false
  by_test false is = refl
  by_test true is = let h = (whole a is).none in absurd (cc)
