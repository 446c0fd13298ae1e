-- Device calls one after another.
use Rattle.std.proofs.Common.{◌≡◌, ◌⊎◌, inl, inr, ⊎_elim, ℕ, ◌+◌, ◌-◌, ◌^◌, ◌<◌, ◌≤◌, min, List, [], ◌∷◌, ◌++◌, refl, sym, ◌∙◌, ap, Bool, true, false, Option, Some, None, append_assoc, arith}
use Rattle.std.specs.Prelude.{IsTrue, IfSome}
use Rattle.std.proofs.lemmas.Bool.{cases_lt}
use Rattle.site_core.specs.Log.{Act, okays}
use Rattle.site_core.specs.Log.Act.{Asked, Wrote, WriteFailed, Synced, SyncFailed, Sent, SendFailed, Restarted}
use Rattle.site_core.specs.Told.{Told, Part, unarmed, Goes, Counted, Ran, HasReason, HasOneReason, Because}
use Rattle.site_core.specs.Told.Part.{Disk, Line}

-- a weaker fact of the same calls
pub goes_as : (P Q : Told → Told → Type 0) (a b : Option Told) → ((x y : Told) → P x y → Q x y) → Goes a b P → Goes a b Q
goes_as P Q None b f p = tt
goes_as P Q (Some x) None f p = absurd p
goes_as P Q (Some x) (Some y) f p = f x y p

-- one call after another
pub goes_on : (P Q R : Told → Told → Type 0) (a b c : Option Told) → ((x y z : Told) → P x y → Q y z → R x z) → Goes a b P → Goes b c Q → Goes a c R
goes_on P Q R None b c f p q = tt
goes_on P Q R (Some x) None c f p q = absurd p
goes_on P Q R (Some x) (Some y) None f p q = absurd q
goes_on P Q R (Some x) (Some y) (Some z) f p q = f x y z p q

-- no call
pub goes_nowhere : (P : Told → Told → Type 0) (a : Option Told) → ((x : Told) → P x x) → Goes a a P
goes_nowhere P None f = tt
goes_nowhere P (Some x) f = f x

-- two facts of the same calls
pub goes_both : (P Q R : Told → Told → Type 0) (a b : Option Told) → ((x y : Told) → P x y → Q x y → R x y) → Goes a b P → Goes a b Q → Goes a b R
goes_both P Q R None b f p q = tt
goes_both P Q R (Some x) None f p q = absurd p
goes_both P Q R (Some x) (Some y) f p q = f x y p q

pub counted_same : (a : Told) → Counted a a
counted_same a = record {
  calls = omega arith;
  traced = omega arith;
  armed = omega arith;
  stops = refl;
  stopped = (λ now. inl now, λ e. ⊎_elim (λ before. before) (λ rose. absurd (omega (arith, rose))) e);
  lacks = omega arith;
  unarmed_disk = omega arith;
  unarmed_line = omega arith;
}

-- the count of stops never falls
stops_later : (a b : Told) → Counted a b → a.stops ≤ b.stops
stops_later a b p = omega (arith, p.stops, p.armed)

module _ (a b c : Told) (p : Counted a b) (q : Counted b c) where
  stopped_back : IsTrue c.stopped → IsTrue a.stopped ⊎ (a.stops < c.stops)
  stopped_back now = ⊎_elim
      (λ before. ⊎_elim (λ first. inl first) (λ rose. inr (omega (arith, rose, stops_later b c q))) (p.stopped.0 before))
      (λ rose. inr (omega (arith, rose, stops_later a b p)))
      (q.stopped.0 now)

  stopped_on : IsTrue a.stopped ⊎ (a.stops < c.stops) → IsTrue c.stopped
  stopped_on e = ⊎_elim
      (λ before. q.stopped.1 (inl (p.stopped.1 (inl before))))
      (λ rose. ⊎_elim
      (λ first. q.stopped.1 (inl (p.stopped.1 (inr first))))
      (λ later. q.stopped.1 (inr (omega (arith, later, rose))))
      (cases_lt a.stops b.stops))
      e

  pub counted_on : Counted a c
  counted_on = record {
    calls = omega (arith, p.calls, q.calls);
    traced = omega (arith, p.traced, q.traced);
    armed = omega (arith, p.armed, q.armed, p.calls, q.calls);
    stops = omega (arith, p.stops, q.stops);
    stopped = (stopped_back, stopped_on);
    lacks = omega (arith, p.lacks, q.lacks);
    unarmed_disk = omega (arith, p.unarmed_disk, q.unarmed_disk);
    unarmed_line = omega (arith, p.unarmed_line, q.unarmed_line);
  }

unarmed_later : (part : Part) (a b : Told) → Counted a b → unarmed part a ≤ unarmed part b
unarmed_later Disk a b p = p.unarmed_disk
unarmed_later Line a b p = p.unarmed_line

-- a reason of earlier calls is one of all the calls
pub reason_before : (part : Part) (a b c : Told) → Counted a b → Counted b c → HasReason part a b → HasReason part a c
reason_before part a b c p q reason = ⊎_elim
    (λ disturbed. ⊎_elim
    (λ stopped. inl (inl stopped))
    (λ more. ⊎_elim (λ stops. inl (inr (inl (omega (arith, stops, stops_later b c q))))) (λ lacks. inl (inr (inr (omega (arith, lacks, q.lacks))))) more)
    disturbed)
    (λ rose. inr (omega (arith, rose, unarmed_later part b c q)))
    reason

-- and so is one of later calls
pub reason_after : (part : Part) (a b c : Told) → Counted a b → Counted b c → HasReason part b c → HasReason part a c
reason_after part a b c p q reason = ⊎_elim
    (λ disturbed. ⊎_elim
    (λ stopped. ⊎_elim (λ before. inl (inl before)) (λ stops. inl (inr (inl (omega (arith, stops, stops_later b c q))))) (p.stopped.0 stopped))
    (λ more. ⊎_elim (λ stops. inl (inr (inl (omega (arith, stops, stops_later a b p))))) (λ lacks. inl (inr (inr (omega (arith, lacks, p.lacks))))) more)
    disturbed)
    (λ rose. inr (omega (arith, rose, unarmed_later part a b p)))
    reason

-- the reason of one call is a reason
pub reason_one : (part : Part) (a b : Told) → HasOneReason part a b → HasReason part a b
reason_one part a b one = ⊎_elim
    (λ disturbed. ⊎_elim
    (λ stopped. inl (inl stopped.0))
    (λ more. ⊎_elim (λ reached. inl (inr (inl reached.1))) (λ lacking. inl (inr (inr lacking.2))) more)
    disturbed)
    (λ unarmed. inr unarmed.3)
    one

-- where a count of faults rose over all the calls, it rose over the earlier or the later ones
pub because_on : (part : Part) (f g h : ℕ) (a b c : Told) → Counted a b → Counted b c → Because part f g a b → Because part g h b c → Because part f h a c
because_on part f g h a b c p q first second rose = ⊎_elim
    (λ early. reason_before part a b c p q (first early))
    (λ late. reason_after part a b c p q (second (omega (arith, late, rose))))
    (cases_lt f g)

pub okays-append : (xs ys : List Act) → okays (xs ++ ys) ≡ okays xs + okays ys
okays-append [] ys = omega arith
okays-append (Asked ∷ xs) ys = omega (arith, okays-append xs ys)
okays-append (Wrote at bytes ∷ xs) ys = omega (arith, okays-append xs ys)
okays-append (Synced ∷ xs) ys = omega (arith, okays-append xs ys)
okays-append (Sent frame ∷ xs) ys = omega (arith, okays-append xs ys)
okays-append (WriteFailed at bytes found ∷ xs) ys = okays-append xs ys
okays-append (SyncFailed ∷ xs) ys = okays-append xs ys
okays-append (SendFailed frame kept ∷ xs) ys = okays-append xs ys
okays-append (Restarted image ∷ xs) ys = okays-append xs ys

-- where no call went through the stop wasn't reached
pub unreached_by_none : (armed through : ℕ) → through ≡ 0 → (armed ≡ 0) ⊎ (through < armed)
unreached_by_none armed through none = ⊎_elim (λ some. inr (omega (arith, some, none))) (λ zero. inl (omega (arith, zero))) (cases_lt 0 armed)

-- nor by calls that went through and more that did
unreached_on : (a b : Told) (first more : List Act) → Counted a b → b.calls ≡ a.calls + okays first → (a.armed ≡ 0) ⊎ (okays first < a.armed) → (b.armed ≡ 0) ⊎ (okays more < b.armed) → (a.armed ≡ 0) ⊎ (okays (more ++ first) < a.armed)
unreached_on a b first more counted calls before later = ⊎_elim
    (λ none. inl none)
    (λ some. ⊎_elim
    (λ none. absurd (omega (arith, some, none, counted.armed, calls)))
    (λ left. inr (omega (arith, left, counted.armed, calls, okays-append more first)))
    later)
    before

-- where a stop was reached, it was armed for the call that failed
pub armed_for : (acts : List Act) (a b : Told) → Counted a b → (a.armed ≡ 0) ⊎ (okays acts < a.armed) → b.calls ≡ min (a.calls + okays acts + 1) (2 ^ 64 - 1) → a.stops < b.stops → a.armed ≡ okays acts + 1
armed_for acts a b counted unreached calls rose = ⊎_elim
    (λ none. absurd (omega (arith, none, rose, counted.stops)))
    (λ some. omega (arith, some, calls, rose, counted.stops, counted.armed))
    unreached

-- no calls
pub ran_none : (P : List Act → Type 0) (a : Told) → P [] → Ran true P a a
ran_none P a p = record {
  acts = [];
  grew = refl;
  are = p;
  counted = counted_same a;
  unreached = unreached_by_none a.armed 0 refl;
  ended = (omega arith, record { stops = refl; lacks = refl; unarmed_disk = refl; unarmed_line = refl });
}

pub ran_as : (whole : Bool) (P Q : List Act → Type 0) (a b : Told) → ((x : List Act) → P x → Q x) → Ran whole P a b → Ran whole Q a b
ran_as whole P Q a b f p = record { acts = p.acts; grew = p.grew; are = f p.acts p.are; counted = p.counted; unreached = p.unreached; ended = p.ended }

-- calls that went through, and more calls
pub ran_on : (whole : Bool) (P Q R : List Act → Type 0) (a b c : Told) → ((x y : List Act) → P x → Q y → R (y ++ x)) → Ran true P a b → Ran whole Q b c → Ran whole R a c
ran_on true P Q R a b c f p q = record {
  acts = q.acts ++ p.acts;
  grew = q.grew ∙ ap (λ (l : List Act). q.acts ++ l) p.grew ∙ sym (append_assoc q.acts p.acts a.log);
  are = f p.acts q.acts p.are q.are;
  counted = counted_on a b c p.counted q.counted;
  unreached = unreached_on a b p.acts q.acts p.counted p.ended.0 p.unreached q.unreached;
  ended = (
    omega (arith, p.ended.0, q.ended.0, okays-append q.acts p.acts),
    record {
      stops = q.ended.1.stops ∙ p.ended.1.stops;
      lacks = q.ended.1.lacks ∙ p.ended.1.lacks;
      unarmed_disk = q.ended.1.unarmed_disk ∙ p.ended.1.unarmed_disk;
      unarmed_line = q.ended.1.unarmed_line ∙ p.ended.1.unarmed_line;
    },
  );
}
ran_on false P Q R a b c f p q = record {
  acts = q.acts ++ p.acts;
  grew = q.grew ∙ ap (λ (l : List Act). q.acts ++ l) p.grew ∙ sym (append_assoc q.acts p.acts a.log);
  are = f p.acts q.acts p.are q.are;
  counted = counted_on a b c p.counted q.counted;
  unreached = unreached_on a b p.acts q.acts p.counted p.ended.0 p.unreached q.unreached;
  ended = (q.ended.0, omega (arith, p.ended.0, q.ended.1, okays-append q.acts p.acts));
}

-- with what is known of the site before the calls
pub goes_knowing : (K : Told → Type 0) (P : Told → Told → Type 0) (a b : Option Told) → IfSome a K → Goes a b P → Goes a b (λ x y. K x × P x y)
goes_knowing K P None b known p = tt
goes_knowing K P (Some x) None known p = absurd p
goes_knowing K P (Some x) (Some y) known p = (known, p)
