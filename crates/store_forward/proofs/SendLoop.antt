-- Sends that go on one by one, and what they come to.
use Rattle.std.proofs.Common.{◌≡◌, inl, inr, ⊎_elim, ℕ, ◌+◌, ◌-◌, ◌<◌, ◌≤◌, List, [], ◌∷◌, ◌++◌, length, take, refl, sym, ◌∙◌, ap, subst, true, false, Ok, Err, Result, arith, length-append}
use Rattle.std.proofs.lemmas.List.{take_all, take_more}
use Rattle.std.proofs.lemmas.Option.{get_or_from_slice_get}
use Rattle.std.specs.Prelude.{slice_get, Some}
use Rattle.site_core.specs.Log.{Act, okays, reads, sent, Left, NothingPending}
use Rattle.site_core.specs.Log.Act.{Sent, SendFailed}
use Rattle.site_core.specs.Told.{Told, Ran, Sends, IsSend, HasReason}
use Rattle.site_core.specs.Told.Part.{Line}
use Rattle.site_core.proofs.Runs.{ran_on, reason_after, reason_one}
use Rattle.store_forward.specs.Sending.{sends, AreBrokenOff, SendCalls, SendMoments}
use Rattle.store_forward.proofs.FramesSent.{sends_okays, sends_read, sends_sent, sends_quiet, sends_left, more_calls, off_okays, off_read, off_quiet, off_left}

pub sends_push : (frames : List (List ℕ)) (frame : List ℕ) → sends (frames ++ frame ∷ []) ≡ Sent frame ∷ sends frames
sends_push [] frame = refl
sends_push (f ∷ fs) frame = ap (λ (l : List Act). l ++ Sent f ∷ []) (sends_push fs frame)

-- the frames before a place, and the one at it
pub and_next : (frames : List (List ℕ)) (i : ℕ) (frame : List ℕ) → i < length frames → slice_get frames i ≡ Some frame → take (i + 1) frames ≡ take i frames ++ frame ∷ []
and_next frames i frame lt is = take_more frames i frame lt ∙ ap (λ (x : List ℕ). take i frames ++ x ∷ []) (get_or_from_slice_get frames i frame frame is)

-- the frames before a place were sent
abbrev pub SentBefore : ℕ → List (List ℕ) → Told → Told → Type 0
SentBefore i frames = Ran true (λ acts. acts ≡ sends (take i frames))

module _ (i : ℕ) (frames : List (List ℕ)) (frame : List ℕ) (next : take (i + 1) frames ≡ take i frames ++ frame ∷ []) (a b c : Told) (before : SentBefore i frames a b) where
  pub one_sent : {E : Type 0} (u : Unit {0}) → Sends {E = E} frame (Ok u) b c → SentBefore (i + 1) frames a c
  one_sent {E} u call =
      ran_on true (λ acts. acts ≡ sends (take i frames)) (IsSend {E = E} frame (Ok u)) (λ acts. acts ≡ sends (take (i + 1) frames)) a b c
      (λ x y p q. ap (λ (l : List Act). l ++ x) q ∙ ap (λ (l : List Act). Sent frame ∷ l) p ∙ sym (ap sends next ∙ sends_push (take i frames) frame))
      before call.ran

  pub one_failed : {E : Type 0} (e : E) → i < length frames → Sends {T = Unit {0}} frame (Err e) b c → SendCalls {T = Unit {0}} frames (Err e) a c
  one_failed {E} e lt call =
      ran_on false (λ acts. acts ≡ sends (take i frames)) (IsSend {T = Unit {0}} {E = E} frame (Err e)) (AreBrokenOff frames) a b c
      (λ x y p q. record {
        number = i;
        some = lt;
        frame = frame;
        next = next;
        are = ⊎_elim
            (λ bare. inl (ap (λ (l : List Act). l ++ x) bare ∙ p))
            (λ failed. inr (failed.0, ap (λ (l : List Act). l ++ x) failed.1 ∙ ap (λ (l : List Act). SendFailed frame failed.0 ∷ l) p))
            q;
      })
      before call.ran

  pub its_reason : {E : Type 0} (e : E) → Sends {T = Unit {0}} frame (Err e) b c → HasReason Line a c
  its_reason e call = reason_after Line a b c before.counted call.ran.counted (reason_one Line b c call.reason)

pub all_sent : (E : Type 0) (u : Unit {0}) (i : ℕ) (frames : List (List ℕ)) → length frames ≤ i → (a b : Told) → SentBefore i frames a b → SendCalls {E = E} frames (Ok u) a b
all_sent E u i frames le a b ran = subst (λ (l : List (List ℕ)). Ran true (λ acts. acts ≡ sends l) a b) (take_all i frames le) ran

-- the moments of the calls
module _ {T E : Type 0} (frames : List (List ℕ)) (a b : Told) where
  pub moments_of : (result : Result T E) → SendCalls frames result a b → SendMoments frames result a b
  moments_of (Ok v) ran quiet =
      let grew : b.log ≡ sends frames ++ a.log = ran.grew ∙ ap (λ (l : List Act). l ++ a.log) ran.are in
      let count : b.calls ≡ a.calls + length frames = omega (arith, ran.ended.0, ap okays ran.are, sends_okays frames) in
      record {
        each = λ image found left. more_calls a.log frames (length frames) (b.calls - a.calls) (omega (arith, count)) image found
            (sends_left frames a.log quiet image found (subst (λ (l : List Act). Left (length a.log) l image found) grew left));
        pending = subst NothingPending (sym grew) (sends_quiet frames a.log quiet);
        image = ap reads grew ∙ sends_read frames a.log;
        most = omega (arith, count);
        all = (count, ap sent grew ∙ sends_sent frames a.log);
      }
  moments_of (Err e) ran quiet = record {
    each = λ image found left. more_calls a.log frames (length ran.acts) (b.calls - a.calls) (omega (arith, ran.counted.traced, ap length ran.grew, length-append ran.acts a.log)) image found
        (off_left frames ran.acts ran.are a.log quiet image found (subst (λ (l : List Act). Left (length a.log) l image found) ran.grew left));
    pending = subst NothingPending (sym ran.grew) (off_quiet frames ran.acts ran.are a.log quiet);
    image = ap reads ran.grew ∙ off_read frames ran.acts ran.are a.log;
    most = omega (arith, ran.ended.1, off_okays frames ran.acts ran.are, ran.are.some);
    all = tt;
  }
