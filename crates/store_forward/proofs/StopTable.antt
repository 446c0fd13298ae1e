-- By the number of the call that a stop was armed for, what it leaves.
use Rattle.std.proofs.Common.{◌≡◌, ◌⊎◌, inl, inr, ⊎_elim, ℕ, ◌+◌, ◌-◌, ◌<◌, ◌≤◌, List, [], ◌∷◌, ◌++◌, length, take, get_or, refl, sym, ◌∙◌, ap, subst, append_assoc, Bool, true, false, if◌then◌else◌, Ok, Err, Result, arith}
use Rattle.std.proofs.lemmas.List.{append-nil, take_more}
use Rattle.site_core.specs.Log.{Act, sent, okays, LeavesImage}
use Rattle.site_core.specs.Log.Act.{SendFailed}
use Rattle.site_core.specs.Told.{Told, Counted, Ran}
use Rattle.site_core.proofs.Moments.{counts_now}
use Rattle.site_core.proofs.Runs.{okays-append, armed_for, counted_same}
use Rattle.torn_journal.specs.Append.{secured, IsBrokenOff, IsAppendBrokenOff}
use Rattle.torn_journal.specs.Append.IsBrokenOff.{unwritten, torn, written, unsynced}
use Rattle.torn_journal.specs.Journal.{IsJournal}
use Rattle.store_forward.specs.declared.faults.ForwardFault.{ForwardFault}
use Rattle.store_forward.specs.declared.faults.ForwardFault.TheVariants.{SiteFault, LineFault, JournalFull}
use Rattle.store_forward.specs.Sending.{sends, AreBrokenOff, SendCalls, IsSendStoppedAt}
use Rattle.store_forward.specs.Storing.{stored, IsForwardBrokenOff, StoreCalls, IsStoreMoment, StoresTo, IsStoreStopped}
use Rattle.store_forward.proofs.FramesSent.{sends_sent, sends_okays, off_okays, off_sent}

-- the stop was armed for the call behind those that went through
armed_next : (P : List Act → Type 0) (a b : Told) (ran : Ran false P a b) → a.stops < b.stops → a.armed ≡ okays ran.acts + 1
armed_next P a b ran rose = armed_for ran.acts a b ran.counted ran.unreached ran.ended.1 rose

pub send_stopped : (T : Type 0) {E : Type 0} (frames : List (List ℕ)) (e : E) (a b : Told) → SendCalls {T = T} frames (Err e) a b → a.stops < b.stops → IsSendStoppedAt a.armed frames a b
send_stopped T frames e a b ran rose =
    let off = ran.are in
    let call : a.armed ≡ off.number + 1 = armed_next (AreBrokenOff frames) a b ran rose ∙ ap (λ n. n + 1) (off_okays frames ran.acts off) in
    let before : off.number ≡ a.armed - 1 = omega (arith, call) in
    record {
      some = omega (arith, call);
      most = omega (arith, call, off.some);
      calls = omega (arith, call, off_okays frames ran.acts off, ran.ended.1, ran.counted.armed, ran.counted.stops, rose);
      frames_sent = ⊎_elim
          (λ out. inl (ap sent ran.grew ∙ out ∙ ap (λ n. sent a.log ++ take n frames) before))
          (λ more. inr (ap sent ran.grew ∙ more ∙ ap (λ n. sent a.log ++ take n frames) (sym call)))
          (off_sent frames ran.acts off a.log);
    }

-- a send that fails may keep its frame and may lose it
sent_or_not : (front : List (List ℕ)) (frame : List ℕ) (kept : Bool) (all : List (List ℕ)) → all ≡ front ++ frame ∷ [] → (log : List Act) → sent (SendFailed frame kept ∷ (sends front ++ log)) ≡ sent log ++ (if kept then all else front)
sent_or_not front frame true all is log = ap (λ (l : List (List ℕ)). l ++ frame ∷ []) (sends_sent front log) ∙ append_assoc (sent log) front (frame ∷ []) ∙ ap (λ (l : List (List ℕ)). sent log ++ l) (sym is)
sent_or_not front frame false all is log = sends_sent front log

choose : (kept : Bool) (frames : List (List ℕ)) (m n : ℕ) → (if kept then take m frames else take n frames) ≡ take (if kept then m else n) frames
choose true frames m n = refl
choose false frames m n = refl

pub either_way : (frames : List (List ℕ)) (number : ℕ) (kept : Bool) → number < length frames
    → (acts : List Act) × AreBrokenOff frames acts × ((log : List Act) → sent (acts ++ log) ≡ sent log ++ take (if kept then number + 1 else number) frames)
either_way frames number kept lt =
    let frame = get_or frames number [] in
    let next : take (number + 1) frames ≡ take number frames ++ frame ∷ [] = take_more frames number [] lt in (
      SendFailed frame kept ∷ sends (take number frames),
      record { number = number; some = lt; frame = frame; next = next; are = inr (kept, refl) },
      λ log. sent_or_not (take number frames) frame kept (take (number + 1) frames) next log ∙ ap (λ (l : List (List ℕ)). sent log ++ l) (choose kept frames (number + 1) number),
    )

-- a write and a sync that are broken off: one went through at most
one_through : (at : ℕ) (bytes : List ℕ) (acts : List Act) → IsBrokenOff at bytes acts → okays acts ≤ 1
one_through at bytes _ unwritten = omega arith
one_through at bytes _ (torn found) = omega arith
one_through at bytes _ written = omega arith
one_through at bytes _ unsynced = omega arith

module _ (tail : ℕ) (framed : List ℕ) (payloads : List (List ℕ)) (payload : List ℕ) (frames : List (List ℕ)) (a b : Told) (rose : a.stops < b.stops) (image : List ℕ) where
  in_append : (ran : Ran false (IsAppendBrokenOff tail framed) a b) → IsStoreMoment payloads payload frames a b image (sent b.log) → IsStoreStopped a.armed payloads payload frames a b image
  in_append ran moment =
      let call = armed_next (IsAppendBrokenOff tail framed) a b ran rose in
      ⊎_elim
      (λ first.
      let few = one_through tail framed ran.acts first in
      ⊎_elim
      (λ before. record {
        kept = false;
        count = 0;
        by_call = inl (omega (arith, call), omega (arith, call, few), refl, refl);
        journal = before.0;
        frames_sent = before.1 ∙ sym (append-nil (sent a.log));
      })
      (λ after. absurd (omega (arith, after.1, few, ran.ended.1)))
      moment)
      (λ second.
      let few = one_through (tail - 1) _ second.0 second.1 in
      let count : okays ran.acts ≡ okays second.0 + 2 = ap okays second.2 ∙ okays-append second.0 (secured tail framed) in
      ⊎_elim
      (λ before. record {
        kept = false;
        count = 0;
        by_call = inr (inl (omega (arith, call, count), omega (arith, call, count, few), refl));
        journal = before.0;
        frames_sent = before.1 ∙ sym (append-nil (sent a.log));
      })
      (λ after. let none : after.2.0 ≡ 0 = omega (arith, after.2.2, ran.ended.1, count, few) in record {
        kept = true;
        count = 0;
        by_call = inr (inl (omega (arith, call, count), omega (arith, call, count, few), refl));
        journal = after.0;
        frames_sent = after.2.3 ∙ ap (λ n. sent a.log ++ take n frames) none;
      })
      moment)
      ran.are

  in_sends : (ran : Ran false (IsForwardBrokenOff tail framed frames) a b) → IsJournal image (payloads ++ payload ∷ []) → IsStoreStopped a.armed payloads payload frames a b image
  in_sends ran journal =
      let last = ran.are.0 in
      let off = ran.are.1 in
      let count : okays ran.acts ≡ off.number + 4 = ap okays ran.are.2 ∙ okays-append last (stored tail framed) ∙ ap (λ n. n + 4) (off_okays frames last off) in
      let call : a.armed ≡ 4 + (off.number + 1) = omega (arith, armed_next (IsForwardBrokenOff tail framed frames) a b ran rose, count) in
      let is : b.log ≡ last ++ (stored tail framed ++ a.log) = ran.grew ∙ ap (λ (l : List Act). l ++ a.log) ran.are.2 ∙ append_assoc last (stored tail framed) a.log in
      ⊎_elim
      (λ out. record {
        kept = true;
        count = off.number;
        by_call = inr (inr (refl, (off.number + 1, omega arith, omega (arith, off.some), call, inl refl)));
        journal = journal;
        frames_sent = ap sent is ∙ out;
      })
      (λ more. record {
        kept = true;
        count = off.number + 1;
        by_call = inr (inr (refl, (off.number + 1, omega arith, omega (arith, off.some), call, inr refl)));
        journal = journal;
        frames_sent = ap sent is ∙ more;
      })
      (off_sent frames last off (stored tail framed ++ a.log))

pub store_stopped : (result : Result (Unit {0}) ForwardFault) (before after : ℕ) (framed payload : List ℕ) (payloads frames : List (List ℕ)) (a b : Told)
    → StoreCalls before framed frames result a b → StoresTo result before after payloads payload frames a b → a.stops < b.stops
    → (image : List ℕ) → LeavesImage b.log image → IsStoreStopped a.armed payloads payload frames a b image
store_stopped (Ok u) before after framed payload payloads frames a b ran stores rose image leaves = absurd (omega (arith, rose, ran.ended.1.stops))
store_stopped (Err SiteFault) before after framed payload payloads frames a b ran stores rose image leaves =
    in_append before framed payloads payload frames a b rose image ran (stores.each image (sent b.log) (counts_now b.log (length a.log) image (sent b.log) (leaves, refl)))
store_stopped (Err LineFault) before after framed payload payloads frames a b ran stores rose image leaves =
    in_sends before framed payloads payload frames a b rose image ran (subst (λ (l : List ℕ). IsJournal l (payloads ++ payload ∷ [])) (sym (stores.added.pending.image image leaves)) stores.added.journal)
store_stopped (Err (JournalFull t n)) before after framed payload payloads frames a b same stores rose image leaves = absurd (omega (arith, rose, ap (λ (t : Told). t.stops) same))

pub store_counted : (result : Result (Unit {0}) ForwardFault) (tail : ℕ) (framed : List ℕ) (frames : List (List ℕ)) (a b : Told) → StoreCalls tail framed frames result a b → Counted a b
store_counted (Ok u) tail framed frames a b ran = ran.counted
store_counted (Err SiteFault) tail framed frames a b ran = ran.counted
store_counted (Err LineFault) tail framed frames a b ran = ran.counted
store_counted (Err (JournalFull t n)) tail framed frames a b same = subst (Counted a) (sym same) (counted_same a)

pub store_beyond : (tail : ℕ) (framed : List ℕ) (frames : List (List ℕ)) (a b : Told) → StoreCalls tail framed frames (Ok tt) a b → (b.calls ≡ a.calls + (4 + length frames)) × ((a.armed ≡ 0) ⊎ (4 + length frames < a.armed))
store_beyond tail framed frames a b ran =
    let count : okays ran.acts ≡ length frames + 4 = ap okays ran.are ∙ okays-append (sends frames) (stored tail framed) ∙ ap (λ n. n + 4) (sends_okays frames) in
    (omega (arith, count, ran.ended.0), ⊎_elim (λ none. inl none) (λ some. inr (omega (arith, some, count))) ran.unreached)
