-- What stands at the front of bytes, and of a front part of them.
use Rattle.std.proofs.Common.{◌≡◌, ⊎_elim, ℕ, ◌+◌, ◌<◌, ◌≤◌, min, Bool, true, false, List, ◌++◌, length, take, if◌then◌else◌, Option, Some, None, is_some, refl, ◌∙◌, ap, arith, length-append}
use Rattle.std.specs.Int.{from_be_bytes, w32}
use Rattle.std.proofs.lemmas.Bool.{cases_lt, lt-ltb, le-ltb, or_parts, or_from}
use Rattle.std.proofs.lemmas.List.{take-take, take-append-le, length-take-le}
use Rattle.link_frames.specs.declared.fault.FrameFault.{FrameFault}
use Rattle.link_frames.specs.Splits.{fault_at, size_at, is_whole, front_length}
use Rattle.link_frames.proofs.Fronts.{fault_same, fault_stays, size_more, sized, whole, whole_from, none_from}
use Rattle.framed_input.specs.Standing.{stands}

pub front_long : (x : List ℕ) → 4 ≤ length x → front_length x ≡ min (length x) (size_at x)
front_long x le = ap (λ b. if b then length x else min (length x) (size_at x)) (le-ltb (length x) 4 le)

pub front_short : (x : List ℕ) → length x < 4 → front_length x ≡ length x
front_short x lt = ap (λ b. if b then length x else min (length x) (size_at x)) (lt-ltb (length x) 4 lt)

-- a whole frame stands whatever comes after it
pub whole_more : (x y : List ℕ) → is_whole x ≡ true → is_whole (x ++ y) ≡ true
whole_more x y w =
    let h = whole x w in
    let s = sized x h.four h.none in
    whole_from (x ++ y)
    (omega (arith, h.four, length-append x y))
    (omega (arith, size_more x y h.four, h.fits, length-append x y))
    (fault_same (x ++ y) x (take-append-le 13 x y (omega (arith, s.0, h.fits))) ∙ h.none)

-- and it is what belongs to the front
pub front_whole : (x : List ℕ) → is_whole x ≡ true → front_length x ≡ size_at x
front_whole x w = let h = whole x w in omega (arith, front_long x h.four, h.fits)

pub whole_taken : (x : List ℕ) → is_whole x ≡ true → is_whole (take (front_length x) x) ≡ true
whole_taken x w =
    let h = whole x w in
    let s = sized x h.four h.none in
    let long : length (take (size_at x) x) ≡ size_at x = length-take-le (size_at x) x h.fits in
    let size : size_at (take (size_at x) x) ≡ size_at x = ap (λ (l : List ℕ). 4 + from_be_bytes w32 l) (take-take 4 (size_at x) x (omega (arith, s.0))) in
    ap (λ n. is_whole (take n x)) (front_whole x w)
    ∙ whole_from (take (size_at x) x)
    (omega (arith, long, s.0))
    (omega (arith, long, size))
    (fault_same (take (size_at x) x) x (take-take 13 (size_at x) x s.0) ∙ h.none)

by_none : (o : Option FrameFault) (P : Type 0) → ((e : FrameFault) → o ≡ Some e → P) → (o ≡ None → P) → P
by_none None P some none = none refl
by_none (Some e) P some none = some e refl

-- where bytes show no fault a front part of them shows none
pub clean_front : (x y : List ℕ) → fault_at (x ++ y) ≡ None → fault_at x ≡ None
clean_front x y e = by_none (fault_at x) (fault_at x ≡ None) (λ fault is. let h = fault_stays x y fault is in absurd (cc)) (λ is. is)

by_bool : (b : Bool) (P : Type 0) → (b ≡ true → P) → (b ≡ false → P) → P
by_bool true P t f = t refl
by_bool false P t f = f refl

pub part_front : (x y : List ℕ) → is_whole (x ++ y) ≡ false → is_whole x ≡ false
part_front x y e = by_bool (is_whole x) (is_whole x ≡ false) (λ w. let h = whole_more x y w in absurd (cc)) (λ is. is)

-- nothing stands
pub record ShowsNothing (x : List ℕ) : Type 0 where
  pub part : is_whole x ≡ false
  pub clean : fault_at x ≡ None

pub nothing : (x : List ℕ) → stands x ≡ false → ShowsNothing x
nothing x e = let both = or_parts (is_whole x) (is_some (fault_at x)) e in record { part = both.0; clean = none_from (fault_at x) both.1 }

pub nothing_from : (x : List ℕ) → is_whole x ≡ false → fault_at x ≡ None → stands x ≡ false
nothing_from x part clean = or_from (is_whole x) (is_some (fault_at x)) part (ap (λ (o : Option FrameFault). is_some o) clean)

pub nothing_front : (x y : List ℕ) → stands (x ++ y) ≡ false → stands x ≡ false
nothing_front x y e = let h = nothing (x ++ y) e in nothing_from x (part_front x y h.part) (clean_front x y h.clean)

-- where nothing stands all bytes belong to the front
pub front_all : (x : List ℕ) → stands x ≡ false → front_length x ≡ length x
front_all x e =
    let h = nothing x e in
    ⊎_elim
    (λ (lt : length x < 4). front_short x lt)
    (λ (four : 4 ≤ length x). ⊎_elim
    (λ (lt : length x < size_at x). omega (arith, front_long x four, lt))
    (λ (fits : size_at x ≤ length x). let w = whole_from x four fits h.clean in let p = h.part in absurd (cc))
    (cases_lt (length x) (size_at x)))
    (cases_lt (length x) 4)
