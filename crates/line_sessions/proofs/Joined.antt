-- Sessions one after another.
use Rattle.std.proofs.Common.{◌≡◌, ◌⊎◌, inl, inr, ⊎_elim, ℕ, zero, suc, ◌+◌, ◌≤◌, Bool, true, false, List, [], ◌∷◌, ◌++◌, length, take, refl, sym, ◌∙◌, ap, subst, append_assoc, append-nil, length-append, arith}
use Rattle.std.specs.Prelude.{if◌then◌else◌}
use Rattle.site_core.specs.Log.{Act, sent, Left}
use Rattle.site_core.specs.Told.{Told}
use Rattle.site_core.proofs.Moments.{left_split}
use Rattle.line_sessions.specs.Plays.{Part, all_after, all_sent, IsMoment, Plays, PlaysOut}

module _ {K T : Type 0} (part : Part K T) where
  pub after_on : (kept : K) (first more : List T) → all_after part kept (first ++ more) ≡ all_after part (all_after part kept first) more
  after_on kept [] more = refl
  after_on kept (t ∷ first) more = after_on (part.after kept t) first more

  pub sent_on : (kept : K) (first more : List T) → all_sent part kept (first ++ more) ≡ all_sent part kept first ++ all_sent part (all_after part kept first) more
  sent_on kept [] more = refl
  sent_on kept (t ∷ first) more =
      ap (λ (l : List (List ℕ)). part.sends kept t ++ l) (sent_on (part.after kept t) first more)
      ∙ sym (append_assoc (part.sends kept t) (all_sent part (part.after kept t) first) (all_sent part (all_after part (part.after kept t) first) more))

  -- a moment of earlier things, with more to come
  before_more : (kept : K) (taken more : List T) (before : List (List ℕ)) (image : List ℕ) (found : List (List ℕ))
      → IsMoment part kept taken before image found → IsMoment part kept (taken ++ more) before image found
  before_more kept taken more before image found m = record {
    done = m.done;
    begun = m.begun;
    later = m.later ++ more;
    are =
        ap (λ (l : List T). l ++ more) m.are
        ∙ append_assoc m.done (m.begun ++ m.later) more
        ∙ ap (λ (l : List T). m.done ++ l) (append_assoc m.begun m.later more);
    one = m.one;
    stays = m.stays;
    count = m.count;
    stands = m.stands;
    few = m.few;
    unsent = m.unsent;
    found_are = m.found_are;
  }

  chosen : (stays : Bool) (first done begun : List T) → (if stays then (first ++ done) ++ begun else first ++ done) ≡ first ++ (if stays then done ++ begun else done)
  chosen true first done begun = append_assoc first done begun
  chosen false first done begun = refl

  -- a moment of later things, behind those that are done
  module _ (kept : K) (first more : List T) (start before : List (List ℕ)) (out : before ≡ start ++ all_sent part kept first) (image : List ℕ) (found : List (List ℕ)) (m : IsMoment part (all_after part kept first) more before image found) where
    state_is : all_after part (all_after part kept first) (if m.stays then m.done ++ m.begun else m.done) ≡ all_after part kept (if m.stays then (first ++ m.done) ++ m.begun else first ++ m.done)
    state_is =
        sym (after_on kept first (if m.stays then m.done ++ m.begun else m.done))
        ∙ ap (all_after part kept) (sym (chosen m.stays first m.done m.begun))

    done_is : all_after part (all_after part kept first) m.done ≡ all_after part kept (first ++ m.done)
    done_is = sym (after_on kept first m.done)

    out_are : before ++ (all_sent part (all_after part kept first) m.done ++ take m.count (all_sent part (all_after part (all_after part kept first) m.done) m.begun))
        ≡ start ++ (all_sent part kept (first ++ m.done) ++ take m.count (all_sent part (all_after part kept (first ++ m.done)) m.begun))
    out_are =
        let rest = take m.count (all_sent part (all_after part (all_after part kept first) m.done) m.begun) in
        let mid = all_sent part (all_after part kept first) m.done in
        ap (λ (l : List (List ℕ)). l ++ (mid ++ rest)) out
        ∙ append_assoc start (all_sent part kept first) (mid ++ rest)
        ∙ ap (λ (l : List (List ℕ)). start ++ l) (
        sym (append_assoc (all_sent part kept first) mid rest)
        ∙ ap (λ (l : List (List ℕ)). l ++ rest) (sym (sent_on kept first m.done))
        ∙ ap (λ (k : K). all_sent part kept (first ++ m.done) ++ take m.count (all_sent part k m.begun)) done_is)

    after_first : IsMoment part kept (first ++ more) start image found
    after_first = record {
      done = first ++ m.done;
      begun = m.begun;
      later = m.later;
      are = ap (λ (l : List T). first ++ l) m.are ∙ sym (append_assoc first m.done (m.begun ++ m.later));
      one = m.one;
      stays = m.stays;
      count = m.count;
      stands = subst (part.Stands image) state_is m.stands;
      few = subst (λ (k : K). m.count ≤ length (all_sent part k m.begun)) done_is m.few;
      unsent = m.unsent;
      found_are = m.found_are ∙ out_are;
    }

  module _ (kept : K) (first more : List T) (a b c : Told) (p : PlaysOut part kept first a b) (q : Plays part (all_after part kept first) more b c) where
    pub plays_on : Plays part kept (first ++ more) a c
    plays_on = record {
      acts = q.acts ++ p.plays.acts;
      grows = q.grows ∙ ap (λ (l : List Act). q.acts ++ l) p.plays.grows ∙ sym (append_assoc q.acts p.plays.acts a.log);
      each = λ image found left. ⊎_elim
          (λ early. before_more kept first more (sent a.log) image found (p.plays.each image found early))
          (λ late. after_first kept first more (sent a.log) (sent b.log) p.all image found (q.each image found (subst (λ (l : List Act). Left (length b.log) l image found) (sym q.grows) late)))
          (left_split q.acts b.log (length a.log) image found
          (omega (arith, ap length p.plays.grows, length-append p.plays.acts a.log))
          (subst (λ (l : List Act). Left (length a.log) l image found) q.grows left));
    }

  pub plays_out_on : (kept : K) (first more : List T) (a b c : Told) → PlaysOut part kept first a b → PlaysOut part (all_after part kept first) more b c → PlaysOut part kept (first ++ more) a c
  plays_out_on kept first more a b c p q = record {
    plays = plays_on kept first more a b c p q.plays;
    all =
        q.all
        ∙ ap (λ (l : List (List ℕ)). l ++ all_sent part (all_after part kept first) more) p.all
        ∙ append_assoc (sent a.log) (all_sent part kept first) (all_sent part (all_after part kept first) more)
        ∙ ap (λ (l : List (List ℕ)). sent a.log ++ l) (sym (sent_on kept first more));
  }

  take_front : {X : Type 0} (n : ℕ) (xs ys : List X) → n ≤ length xs → take n (xs ++ ys) ≡ take n xs
  take_front zero xs ys le = refl
  take_front (suc n) [] ys le = absurd (omega (arith, le))
  take_front (suc n) (x ∷ xs) ys le = ap (λ l. x ∷ l) (take_front n xs ys (omega (arith, le)))

  -- the first of two lists, and some first of the second, are the first of both
  taken_on : {X : Type 0} (xs ys : List X) (n : ℕ) → xs ++ take n ys ≡ take (length xs + n) (xs ++ ys)
  taken_on [] ys n = ap (λ (k : ℕ). take k ys) (let same : n ≡ 0 + n = omega arith in same)
  taken_on (x ∷ xs) ys n =
      ap (λ l. x ∷ l) (taken_on xs ys n)
      ∙ ap (λ (k : ℕ). take k (x ∷ (xs ++ ys))) (let same : suc (length xs + n) ≡ length (x ∷ xs) + n = omega arith in same)

  module _ (kept : K) (taken : List T) (before : List (List ℕ)) (image : List ℕ) (found : List (List ℕ)) (m : IsMoment part kept taken before image found) where
    split : (stays : Bool) → (first : List T) × (later : List T) × (taken ≡ first ++ later) × (first ≡ (if stays then m.done ++ m.begun else m.done))
    split true = (m.done ++ m.begun, m.later, m.are ∙ sym (append_assoc m.done m.begun m.later), refl)
    split false = (m.done, m.begun ++ m.later, m.are, refl)

    pub kept_in_order : (first : List T) × (later : List T) × (taken ≡ first ++ later) × part.Stands image (all_after part kept first)
    kept_in_order =
        let s = split m.stays in
        (s.0, s.1, s.2, subst (λ (l : List T). part.Stands image (all_after part kept l)) (sym s.3) m.stands)

    -- all that is sent, in three
    abbrev out : List (List ℕ)
    out = all_sent part kept m.done

    abbrev going : List (List ℕ)
    going = all_sent part (all_after part kept m.done) m.begun

    abbrev rest : List (List ℕ)
    rest = all_sent part (all_after part (all_after part kept m.done) m.begun) m.later

    all_are : all_sent part kept taken ≡ out ++ (going ++ rest)
    all_are =
        ap (all_sent part kept) m.are
        ∙ sent_on kept m.done (m.begun ++ m.later)
        ∙ ap (λ (l : List (List ℕ)). out ++ l) (sent_on (all_after part kept m.done) m.begun m.later)

    pub sent_in_order : (n : ℕ) × (n ≤ length (all_sent part kept taken)) × (found ≡ before ++ take n (all_sent part kept taken))
    sent_in_order = (
      length out + m.count,
      omega (arith, m.few, ap length all_are, length-append out (going ++ rest), length-append going rest),
      m.found_are
          ∙ ap (λ (l : List (List ℕ)). before ++ l) (
          ap (λ (l : List (List ℕ)). out ++ l) (sym (take_front m.count going rest m.few))
          ∙ taken_on out (going ++ rest) m.count
          ∙ ap (λ (l : List (List ℕ)). take (length out + m.count) l) (sym all_are)),
    )
