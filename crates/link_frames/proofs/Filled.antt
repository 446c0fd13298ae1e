-- Filling up the frame that is being read: the two ways in which it ends.
use Rattle.std.proofs.Common.{◌≡◌, ⊎_elim, inl, inr, ℕ, ◌+◌, ◌-◌, ◌<◌, ◌≤◌, min, ◌&&◌, ◌||◌, Bool, true, false, nat_le, nat_lt, List, [], ◌∷◌, ◌++◌, length, take, drop, if◌then◌else◌, Option, Some, None, is_none, IsTrue, refl, sym, ◌∙◌, ap, subst, arith, append-nil, append_assoc, length-append, length-take, length-drop, take-append-drop}
use Rattle.std.proofs.Math.Seq.{take-append-add}
use Rattle.std.proofs.lemmas.Bool.{cases_lt, and_parts, and_from, or_left, or_right, lt-ltb, le-ltb, le-leb, lt-leb, leb-true}
use Rattle.std.proofs.lemmas.List.{take-take, take-append-le, drop-take, take_all}
use Rattle.link_frames.specs.declared.fault.FrameFault.{FrameFault}
use Rattle.link_frames.specs.Filling.{Fills}
use Rattle.link_frames.specs.Held.{is_held, greatest_frame}
use Rattle.link_frames.specs.Splits.{fault_at, size_at, front_length}
use Rattle.link_frames.proofs.Fronts.{fault_same, size_more, sized, whole, whole_from}

none_of : (l : List ℕ) → length l ≡ 0 → l ≡ []
none_of [] e = refl
none_of (x ∷ l) e = absurd (omega (arith, e))

take_both : (n m : ℕ) (l : List ℕ) → take (n + m) l ≡ take n l ++ take m (drop n l)
take_both n m l =
    sym (take-append-drop n (take (n + m) l))
    ∙ ap (λ (a : List ℕ). a ++ drop n (take (n + m) l)) (take-take n (n + m) l (omega arith))
    ∙ ap (λ (a : List ℕ). take n l ++ a) (drop-take n m l)

front_by : (x : List ℕ) (short : Bool) (n : ℕ) → nat_lt (length x) 4 ≡ short → n ≡ (if short then length x else min (length x) (size_at x)) → n ≡ front_length x
front_by x short n e is = is ∙ ap (λ b. if b then length x else min (length x) (size_at x)) (sym e)

front_long : (x : List ℕ) → 4 ≤ length x → min (length x) (size_at x) ≡ front_length x
front_long x le = front_by x false (min (length x) (size_at x)) (le-ltb (length x) 4 le) refl

front_short : (x : List ℕ) → length x < 4 → length x ≡ front_length x
front_short x lt = front_by x true (length x) (lt-ltb (length x) 4 lt) refl

-- up to a head, without a fault all bytes belong to the frame
front_all : (x : List ℕ) → length x ≤ 13 → fault_at x ≡ None → take (front_length x) x ≡ x
front_all x few none = take_all (front_length x) x (⊎_elim
    (λ lt. omega (arith, front_short x lt))
    (λ le. omega (arith, front_long x le, few, (sized x le none).0))
    (cases_lt (length x) 4))

pub held_long : (x : List ℕ) → IsTrue (is_held x) → 13 < length x → length x ≤ size_at x
held_long x held long =
    let right : (is_none (fault_at x) && nat_le (length x) (size_at x)) ≡ true =
    ap (λ (b : Bool). b || (is_none (fault_at x) && nat_le (length x) (size_at x))) (sym (lt-leb (length x) 13 long)) ∙ held in
    leb-true (length x) (size_at x) (and_parts (is_none (fault_at x)) (nat_le (length x) (size_at x)) right).1

module _ (old piece : List ℕ) (before n : ℕ) (long : length old ≡ before) (few : before ≤ greatest_frame) (held : IsTrue (is_held old)) (count : n ≡ min (13 - before) (length piece)) where
  nothing : 13 ≤ before → old ++ take n piece ≡ old
  nothing le =
      ap (λ k. old ++ take k piece) (let e : n ≡ 0 = omega (arith, count, le) in e)
      ∙ append-nil old

  headed : take 13 (old ++ take n piece) ≡ take 13 (old ++ piece)
  headed = ⊎_elim
      (λ (lt : before + n < 13). ap (λ (l : List ℕ). take 13 (old ++ l)) (take_all n piece (omega (arith, count, lt))))
      (λ (le : 13 ≤ before + n). ⊎_elim
      (λ (lt : before < 13).
      ap (take 13) (sym (take-append-add old piece n))
      ∙ take-take 13 (length old + n) (old ++ piece) (omega (arith, long, le)))
      (λ (ge : 13 ≤ before). take-append-le 13 old (take n piece) (omega (arith, long, ge)) ∙ sym (take-append-le 13 old piece (omega (arith, long, ge))))
      (cases_lt before 13))
      (cases_lt (before + n) 13)

  headed_length : length (old ++ take n piece) ≡ before + n
  headed_length = length-append old (take n piece) ∙ omega (arith, long, length-take n piece, count)

  pub early : (new : List ℕ) (fault : Option FrameFault) → new ≡ old ++ take n piece → fault ≡ fault_at new → (fault ≡ None → before + n < 13) → Fills old piece new before (before + n) fault
  early new fault is shown short =
      let same : fault ≡ fault_at (old ++ piece) = shown ∙ ap fault_at is ∙ fault_same (old ++ take n piece) (old ++ piece) headed in
      record {
        long = omega (arith, count, few);
        grew = omega arith;
        within = omega (arith, count);
        is = λ k e. is ∙ ap (λ m. old ++ take m piece) (let f : n ≡ k = omega (arith, e) in f);
        held = subst (λ (l : List ℕ). IsTrue (is_held l)) (sym is) (⊎_elim
            (λ (lt : before < 13). or_left (nat_le (length (old ++ take n piece)) 13) (is_none (fault_at (old ++ take n piece)) && nat_le (length (old ++ take n piece)) (size_at (old ++ take n piece))) (le-leb (length (old ++ take n piece)) 13 (omega (arith, headed_length, count, lt))))
            (λ (le : 13 ≤ before). subst (λ (l : List ℕ). IsTrue (is_held l)) (sym (nothing le)) held)
            (cases_lt before 13));
        shown = shown;
        same = same;
        front = λ none.
            let lt = short none in
            let all : old ++ take n piece ≡ old ++ piece = ap (λ (l : List ℕ). old ++ l) (take_all n piece (omega (arith, count, lt))) in
            is ∙ all ∙ sym (front_all (old ++ piece) (omega (arith, lt, headed_length, ap (λ (l : List ℕ). length l) all)) (sym same ∙ none));
        none = λ none. let lt = short none in (
          λ e. inr (none_of piece (omega (arith, e, count, lt))),
          λ either. ⊎_elim
              (λ w. let h = whole old w in absurd (omega (arith, h.fits, (sized old h.four h.none).0, long, lt)))
              (λ (empty : piece ≡ []). omega (arith, count, ap (λ (l : List ℕ). length l) empty))
              either,
        );
        cut = λ e some clean. ⊎_elim
            (λ (lt : before < 13). is ∙ sym (take_all 13 (old ++ take n piece) (omega (arith, headed_length, count, lt))) ∙ headed)
            (λ (le : 13 ≤ before).
            let h : Some e ≡ None = sym some ∙ shown ∙ ap fault_at (is ∙ nothing le) ∙ clean in absurd (cc))
            (cases_lt before 13);
      }

  module _ (new : List ℕ) (more size : ℕ) (enough : 13 ≤ before + n) (clean : fault_at (old ++ take n piece) ≡ None) (long_as : size ≡ size_at (old ++ take n piece)) (most : more ≡ min (size - (before + n)) (length (drop n piece))) (is : new ≡ (old ++ take n piece) ++ take more (drop n piece)) where
    four : 4 ≤ length (old ++ take n piece)
    four = omega (arith, headed_length, enough)

    sizes : (13 ≤ size) × (size ≤ 8205)
    sizes = let s = sized (old ++ take n piece) four clean in (omega (arith, s.0, long_as), omega (arith, s.1, long_as))

    within_size : before + n ≤ size
    within_size = ⊎_elim
        (λ (lt : 13 < before).
        let same : size ≡ size_at old = long_as ∙ ap (λ (l : List ℕ). size_at l) (nothing (omega (arith, lt))) in
        omega (arith, held_long old held (omega (arith, long, lt)), same, long, lt, count))
        (λ (le : before ≤ 13). omega (arith, le, count, sizes.0))
        (cases_lt 13 before)

    all_same : fault_at (old ++ piece) ≡ None
    all_same = sym (fault_same (old ++ take n piece) (old ++ piece) headed) ∙ clean

    new_is : new ≡ old ++ take (n + more) piece
    new_is = is ∙ append_assoc old (take n piece) (take more (drop n piece)) ∙ ap (λ (l : List ℕ). old ++ l) (sym (take_both n more piece))

    new_length : length new ≡ before + n + more
    new_length = ap (λ (l : List ℕ). length l) new_is ∙ length-append old (take (n + more) piece) ∙ omega (arith, long, length-take (n + more) piece, count, most, length-drop n piece)

    new_clean : fault_at new ≡ None
    new_clean =
        fault_same new (old ++ take n piece) (ap (take 13) is ∙ take-append-le 13 (old ++ take n piece) (take more (drop n piece)) (omega (arith, headed_length, enough)))
        ∙ clean

    new_size : size_at new ≡ size
    new_size = ap (λ (l : List ℕ). size_at l) is ∙ size_more (old ++ take n piece) (take more (drop n piece)) four ∙ sym long_as

    size_all : size_at (old ++ piece) ≡ size
    size_all =
        ap (λ (l : List ℕ). size_at (old ++ l)) (sym (take-append-drop n piece))
        ∙ ap (λ (l : List ℕ). size_at l) (sym (append_assoc old (take n piece) (drop n piece)))
        ∙ size_more (old ++ take n piece) (drop n piece) four
        ∙ sym long_as

    length_all : length (old ++ piece) ≡ before + length piece
    length_all = length-append old piece ∙ omega (arith, long)

    count_all : before + n + more ≡ front_length (old ++ piece)
    count_all =
        let e : before + n + more ≡ min (length (old ++ piece)) (size_at (old ++ piece)) =
        omega (arith, size_all, length_all, most, count, within_size, length-drop n piece) in
        e ∙ front_long (old ++ piece) (omega (arith, length_all, enough, count))

    pub filled : Fills old piece new before (before + n + more) None
    filled = record {
      long = omega (arith, sizes.1, within_size, most);
      grew = omega arith;
      within = omega (arith, most, count, length-drop n piece);
      is = λ k e. new_is ∙ ap (λ m. old ++ take m piece) (let f : n + more ≡ k = omega (arith, e) in f);
      held = or_right (nat_le (length new) 13) (is_none (fault_at new) && nat_le (length new) (size_at new))
          (and_from (is_none (fault_at new)) (nat_le (length new) (size_at new)) (ap (λ (o : Option FrameFault). is_none o) new_clean)
          (le-leb (length new) (size_at new) (omega (arith, new_length, new_size, most, within_size))));
      shown = sym new_clean;
      same = sym all_same;
      front = λ none.
          new_is
          ∙ sym (take-append-add old piece (n + more))
          ∙ ap (λ k. take k (old ++ piece)) (let e : length old + (n + more) ≡ before + n + more = omega (arith, long) in e ∙ count_all);
      none = λ none. (
        λ e. ⊎_elim
            (λ (lt : before < size). inr (none_of piece (omega (arith, e, lt, most, count, enough, length-drop n piece))))
            (λ (le : size ≤ before).
            let at : old ++ take n piece ≡ old = nothing (omega (arith, sizes.0, le)) in
            let s : size_at old ≡ size = ap (λ (l : List ℕ). size_at l) (sym at) ∙ sym long_as in
            inl (whole_from old (omega (arith, long, sizes.0, le)) (omega (arith, s, long, le)) (ap fault_at (sym at) ∙ clean)))
            (cases_lt before size),
        λ either. ⊎_elim
            (λ w.
            let h = whole old w in
            let at : old ++ take n piece ≡ old = nothing (omega (arith, h.fits, (sized old h.four h.none).0, long)) in
            let s : size ≡ size_at old = long_as ∙ ap (λ (l : List ℕ). size_at l) at in
            omega (arith, s, h.fits, (sized old h.four h.none).0, long, most, count))
            (λ (empty : piece ≡ []). omega (arith, most, count, length-drop n piece, ap (λ (l : List ℕ). length l) empty))
            either,
      );
      cut = λ e some clean. absurd (cc);
    }
