-- What a splitter was fed shows the frame and the fault of all that is held.
use Rattle.std.proofs.Common.{◌≡◌, ⊎_elim, ℕ, ◌+◌, ◌-◌, ◌<◌, ◌≤◌, min, Bool, true, false, List, [], ◌∷◌, ◌++◌, length, take, drop, Option, Some, None, refl, sym, ◌∙◌, ap, subst, arith, append-nil, append_assoc, length-append, length-take, length-drop, take-append-drop}
use Rattle.std.proofs.lemmas.Bool.{cases_lt}
use Rattle.std.proofs.lemmas.List.{take-take, take-append-le, take_all, length-take-le, drop_at, drop-take, drop-drop}
use Rattle.link_frames.specs.declared.fault.FrameFault.{FrameFault}
use Rattle.link_frames.specs.Held.{greatest_frame}
use Rattle.link_frames.specs.Splits.{fault_at, size_at, is_whole, front_length}
use Rattle.link_frames.proofs.Fronts.{fault_same, fault_not_whole, sized, whole, take_more_of}
use Rattle.framed_input.specs.Feeding.{Settled, Feeds}
use Rattle.framed_input.specs.FramesIn.{after_front}
use Rattle.framed_input.specs.Intake.{part}
use Rattle.framed_input.specs.Standing.{stands}
use Rattle.framed_input.proofs.Fronts.{front_long, front_short, whole_taken, front_whole, front_all, clean_front, part_front, nothing}

none_of : (l : List ℕ) → length l ≡ 0 → l ≡ []
none_of [] e = refl
none_of (x ∷ l) e = absurd (omega (arith, e))

module _ (fed unfed : List ℕ) (count : ℕ) (fault : Option FrameFault) (s : Settled fed unfed count fault) where
  by_whole : (b : Bool) → is_whole (fed ++ unfed) ≡ b → fault ≡ None → is_whole fed ≡ is_whole (fed ++ unfed)
  by_whole true w none = ap is_whole (s.front none) ∙ whole_taken (fed ++ unfed) w ∙ sym w
  by_whole false w none = part_front fed unfed w ∙ sym w

  by_fault : (o : Option FrameFault) → fault ≡ o → is_whole fed ≡ is_whole (fed ++ unfed)
  by_fault None none = by_whole (is_whole (fed ++ unfed)) refl none
  by_fault (Some e) is = fault_not_whole fed e (sym s.same ∙ is) ∙ sym (fault_not_whole (fed ++ unfed) e (sym s.shown ∙ is))

  pub settled_whole : is_whole fed ≡ is_whole (fed ++ unfed)
  settled_whole = by_fault fault refl

  pub settled_all : stands (fed ++ unfed) ≡ false → unfed ≡ []
  settled_all e =
      let h = nothing (fed ++ unfed) e in
      let all : fed ≡ fed ++ unfed = s.front (s.shown ∙ h.clean) ∙ take_all (front_length (fed ++ unfed)) (fed ++ unfed) (omega (arith, front_all (fed ++ unfed) e)) in
      none_of unfed (omega (arith, ap (λ (l : List ℕ). length l) all, length-append fed unfed))

  pub settled_after : is_whole (fed ++ unfed) ≡ true → after_front (fed ++ unfed) ≡ unfed
  settled_after w =
      let h = whole (fed ++ unfed) w in
      let is : fed ≡ take (size_at (fed ++ unfed)) (fed ++ unfed) = s.front (s.shown ∙ h.none) ∙ ap (λ n. take n (fed ++ unfed)) (front_whole (fed ++ unfed) w) in
      drop_at fed unfed (size_at (fed ++ unfed)) (ap (λ (l : List ℕ). length l) is ∙ length-take-le (size_at (fed ++ unfed)) (fed ++ unfed) h.fits)

-- what is fed and what isn't are the bytes together
pub joined : (old piece new : List ℕ) (n : ℕ) → new ≡ old ++ take n piece → new ++ drop n piece ≡ old ++ piece
joined old piece new n is =
    ap (λ (l : List ℕ). l ++ drop n piece) is
    ∙ append_assoc old (take n piece) (drop n piece)
    ∙ ap (λ (l : List ℕ). old ++ l) (take-append-drop n piece)

module _ (old piece new : List ℕ) (n : ℕ) (le : n ≤ length piece) (is : new ≡ old ++ take n piece) where
  counted : length old + n ≡ length new
  counted = omega (arith, ap (λ (l : List ℕ). length l) is, length-append old (take n piece), length-take n piece, le)

  front_few : (x : List ℕ) → fault_at x ≡ None → front_length x ≤ greatest_frame
  front_few x clean = ⊎_elim
      (λ lt. omega (arith, front_short x lt, lt))
      (λ four. omega (arith, front_long x four, (sized x four clean).1))
      (cases_lt (length x) 4)

  pub feeds_on : new ≡ take (front_length (old ++ piece)) (old ++ piece) → fault_at (old ++ piece) ≡ None → Feeds old piece new n None
  feeds_on front clean =
      let all = joined old piece new n is in
      let none : fault_at (new ++ drop n piece) ≡ None = ap fault_at all ∙ clean in
      record {
        within = le;
        is = is;
        settled = record {
          counted = counted;
          few = omega (arith, counted, ap (λ (l : List ℕ). length l) front, length-take (front_length (old ++ piece)) (old ++ piece), front_few (old ++ piece) clean);
          shown = sym none;
          same = sym (clean_front new (drop n piece) none);
          front = λ _. front ∙ ap (λ (l : List ℕ). take (front_length l) l) (sym all);
        };
      }

  pub feeds_bad : (e : FrameFault) → fault_at (old ++ piece) ≡ Some e → fault_at new ≡ Some e → length new ≤ 13 → Feeds old piece new n (Some e)
  feeds_bad e shown same few =
      record {
        within = le;
        is = is;
        settled = record {
          counted = counted;
          few = omega (arith, counted, few);
          shown = sym (ap fault_at (joined old piece new n is) ∙ shown);
          same = sym same;
          front = λ none. absurd (cc);
        };
      }

take_least : (k : ℕ) (l : List ℕ) → take k l ≡ take (min k (length l)) l
take_least k l = ⊎_elim
    (λ (lt : k < length l). ap (λ n. take n l) (let e : k ≡ min k (length l) = omega (arith, lt) in e))
    (λ (le : length l ≤ k). take_all k l le ∙ sym (take_all (min k (length l)) l (omega (arith, le))))
    (cases_lt k (length l))

-- a fault shows within the first thirteen bytes
old_few : (old piece : List ℕ) (e : FrameFault) → fault_at (old ++ piece) ≡ Some e → fault_at old ≡ None → length old < 13
old_few old piece e shown clean = ⊎_elim
    (λ lt. lt)
    (λ (le : 13 ≤ length old). let h = fault_same (old ++ piece) old (take-append-le 13 old piece le) in absurd (cc))
    (cases_lt (length old) 13)

pub feeds_fault : (old piece new : List ℕ) (n : ℕ) (e : FrameFault) → fault_at (old ++ piece) ≡ Some e → fault_at old ≡ None → fault_at new ≡ Some e
    → new ≡ take 13 (old ++ piece) → n ≡ min (13 - length old) (length piece) → Feeds old piece new n (Some e)
feeds_fault old piece new n e shown clean same cut count =
    let lt = old_few old piece e shown clean in
    let is : new ≡ old ++ take n piece =
    cut ∙ take_more_of 13 old piece
    ∙ ap (λ (l : List ℕ). l ++ take (13 - length old) piece) (take_all 13 old (omega (arith, lt)))
    ∙ ap (λ (l : List ℕ). old ++ l) (take_least (13 - length old) piece ∙ ap (λ k. take k piece) (sym count)) in
    feeds_bad old piece new n (omega (arith, count)) is e shown same (omega (arith, ap (λ (l : List ℕ). length l) cut, length-take 13 (old ++ piece)))

-- what stands after some bytes of a part
pub part_after : (buffer : List ℕ) (start end count : ℕ) → start + count ≤ end → drop count (part buffer start end) ≡ part buffer (start + count) end
part_after buffer start end count le =
    let e : end - start ≡ count + (end - (start + count)) = omega (arith, le) in
    ap (λ k. drop count (take k (drop start buffer))) e
    ∙ drop-take count (end - (start + count)) (drop start buffer)
    ∙ ap (take (end - (start + count))) (drop-drop count start buffer)

pub part_first : (buffer : List ℕ) (end count : ℕ) → count ≤ end → drop count (take end buffer) ≡ part buffer count end
part_first buffer end count le =
    let e : end ≡ count + (end - count) = omega (arith, le) in
    ap (λ k. drop count (take k buffer)) e
    ∙ drop-take count (end - count) buffer

-- what a hand-out leaves: the bytes that weren't fed, of which some are fed then
pub record HandsOn (new buffer : List ℕ) (start end count : ℕ) (fault : Option FrameFault) : Type 0 where
  pub within : start + count ≤ end
  pub settled : Settled new (part buffer (start + count) end) count fault
  pub all : new ++ part buffer (start + count) end ≡ part buffer start end

pub hands_on : (old piece new buffer : List ℕ) (start end count : ℕ) (fault : Option FrameFault) → old ≡ [] → piece ≡ part buffer start end → start ≤ end → end ≤ length buffer
    → Feeds old piece new count fault → HandsOn new buffer start end count fault
hands_on old piece new buffer start end count fault empty is order room f =
    let long : length piece ≤ end - start = omega (arith, ap (λ (l : List ℕ). length l) is, length-take (end - start) (drop start buffer)) in
    let fits : start + count ≤ end = omega (arith, f.within, long, order) in
    let moved : drop count piece ≡ part buffer (start + count) end = ap (drop count) is ∙ part_after buffer start end count fits in
    let number : length old + count ≡ count = omega (arith, ap (λ (l : List ℕ). length l) empty) in
    record {
      within = fits;
      settled = subst (λ (l : List ℕ). Settled new l count fault) moved (subst (λ n. Settled new (drop count piece) n fault) number f.settled);
      all =
          ap (λ (l : List ℕ). new ++ l) (sym moved)
          ∙ joined old piece new count f.is
          ∙ ap (λ (l : List ℕ). l ++ piece) empty
          ∙ is;
    }

-- with nothing unfed there is nothing, whatever the buffer holds
pub scribbled : (buffer other : List ℕ) (start end : ℕ) → part buffer start end ≡ [] → start ≤ end → end ≤ length buffer → part other start end ≡ []
scribbled buffer other start end empty order room =
    let e : end - start ≡ 0 = omega (arith, ap (λ (l : List ℕ). length l) empty, length-take (end - start) (drop start buffer), length-drop start buffer, order, room) in
    ap (λ n. take n (drop start other)) e

-- what a read adds: the piece within the limit, of which some bytes are fed then
pub record Adds (fed unfed new buffer : List ℕ) (number count kept left n : ℕ) (fault : Option FrameFault) : Type 0 where
  pub within : count ≤ kept
  pub settled : Settled new (part buffer count kept) (number + count) fault
  pub all : new ++ part buffer count kept ≡ (fed ++ unfed) ++ take left (take n buffer)
  pub same : kept ≡ 0 → new ++ part buffer count kept ≡ fed ++ unfed

pub adds : (fed unfed piece new buffer : List ℕ) (number count kept left n : ℕ) (fault : Option FrameFault) → unfed ≡ [] → number ≡ length fed → piece ≡ take kept buffer
    → kept ≡ min n left → n ≤ length buffer → Feeds fed piece new count fault → Adds fed unfed new buffer number count kept left n fault
adds fed unfed piece new buffer number count kept left n fault empty counted is least room f =
    let few : count ≤ kept = omega (arith, f.within, ap (λ (l : List ℕ). length l) is, length-take kept buffer) in
    let moved : drop count piece ≡ part buffer count kept = ap (drop count) is ∙ part_first buffer kept count few in
    let front : fed ≡ fed ++ unfed = sym (append-nil fed) ∙ ap (λ (l : List ℕ). fed ++ l) (sym empty) in
    let fed_all : new ++ part buffer count kept ≡ fed ++ take kept buffer =
    ap (λ (l : List ℕ). new ++ l) (sym moved) ∙ joined fed piece new count f.is ∙ ap (λ (l : List ℕ). fed ++ l) is in
    let long : length (take n buffer) ≡ n = length-take-le n buffer room in
    let cut : take kept buffer ≡ take left (take n buffer) = ⊎_elim
    (λ (lt : left < n). ap (λ k. take k buffer) (let e : kept ≡ left = omega (arith, lt, least) in e) ∙ sym (take-take left n buffer (omega (arith, lt))))
    (λ (le : n ≤ left). ap (λ k. take k buffer) (let e : kept ≡ n = omega (arith, le, least) in e) ∙ sym (take_all left (take n buffer) (omega (arith, le, long))))
    (cases_lt left n) in
    record {
      within = few;
      settled = subst (λ (l : List ℕ). Settled new l (number + count) fault) moved (subst (λ k. Settled new (drop count piece) (k + count) fault) (sym counted) f.settled);
      all = fed_all ∙ ap (λ (l : List ℕ). l ++ take kept buffer) front ∙ ap (λ (l : List ℕ). (fed ++ unfed) ++ l) cut;
      same = λ nought. fed_all ∙ ap (λ k. fed ++ take k buffer) nought ∙ append-nil fed ∙ front;
    }
