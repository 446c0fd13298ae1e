-- An append that went through, and the sends behind it.
use Rattle.std.proofs.Common.{◌≡◌, inl, inr, ⊎_elim, ℕ, ◌+◌, ◌-◌, ◌≤◌, List, [], ◌∷◌, ◌++◌, length, take, refl, sym, ◌∙◌, ap, subst, append_assoc, length-append, true, false, Ok, Err, Result, arith}
use Rattle.std.proofs.lemmas.List.{append-nil}
use Rattle.site_core.specs.Log.{Act, reads, sent, okays, Left, NothingPending}
use Rattle.site_core.specs.Told.{Told, Counted, HasReason}
use Rattle.site_core.specs.Told.Part.{Line}
use Rattle.site_core.proofs.Moments.{left_split, counts_now, leaves_reads}
use Rattle.site_core.proofs.Runs.{ran_on, reason_after}
use Rattle.torn_journal.specs.declared.faults.AppendFault.{AppendFault}
use Rattle.torn_journal.specs.Append.{secured, IsBrokenOff, IsAppendBrokenOff, AppendCalls, Appends, IsAppend, KeepsOrAdds}
use Rattle.torn_journal.specs.Append.IsBrokenOff.{unwritten, torn, written, unsynced}
use Rattle.torn_journal.specs.Journal.{IsJournal, tail_of}
use Rattle.store_forward.specs.declared.faults.ForwardFault.{ForwardFault}
use Rattle.store_forward.specs.declared.faults.ForwardFault.TheVariants.{SiteFault, LineFault, JournalFull}
use Rattle.store_forward.specs.Sending.{sends, AreBrokenOff, SendCalls, SendsTo, SendMoments}
use Rattle.store_forward.specs.Storing.{stored, IsForwardBrokenOff, StoreCalls, StoreSends, IsStoreMoment, HasStored, Stores}
use Rattle.store_forward.proofs.FramesSent.{sends_sent, off_sent}

-- an append that went through
abbrev pub Went : (tail next : ℕ) (framed payload : List ℕ) → Unit {0} → Told → Told → Type 0
Went tail next framed payload u a b = Appends {E = AppendFault} (Ok u) tail next payload a b × AppendCalls tail framed (Ok u) a b

-- sends, with what is said of their moments
abbrev pub SendsSo : {E : Type 0} → List (List ℕ) → Result (Unit {0}) E → Told → Told → Type 0
SendsSo frames result b c = SendCalls frames result b c × SendMoments frames result b c

module _ (tail : ℕ) (framed : List ℕ) (frames : List (List ℕ)) (a b c : Told) (u : Unit {0}) (first : AppendCalls tail framed (Ok u) a b) where
  pub calls_all : (E : Type 0) (v w : Unit {0}) → SendCalls {E = E} frames (Ok v) b c → StoreCalls tail framed frames (Ok w) a c
  calls_all E v w second =
      ran_on true (IsAppend tail framed) (λ acts. acts ≡ sends frames) (λ acts. acts ≡ sends frames ++ stored tail framed) a b c
      (λ x y p q. ap (λ (l : List Act). l ++ x) q ∙ ap (λ (l : List Act). sends frames ++ l) p)
      first second

  pub calls_some : {E : Type 0} (e : E) → SendCalls {T = Unit {0}} frames (Err e) b c → StoreCalls tail framed frames (Err LineFault) a c
  calls_some e second =
      ran_on false (IsAppend tail framed) (AreBrokenOff frames) (IsForwardBrokenOff tail framed frames) a b c
      (λ x y p q. (y, q, ap (λ (l : List Act). y ++ l) p))
      first second

  pub line_reason : {E : Type 0} (e : E) → SendCalls {T = Unit {0}} frames (Err e) b c → HasReason Line b c → HasReason Line a c
  line_reason e second why = reason_after Line a b c first.counted second.counted why

module _ (tail next : ℕ) (framed payload : List ℕ) (frames : List (List ℕ)) (a b c : Told) (u : Unit {0}) (went : Went tail next framed payload u a b) where
  four : b.calls ≡ a.calls + 4
  four = omega (arith, went.1.ended.0, ap okays went.1.are)

  later : length a.log ≤ length b.log
  later = omega (arith, ap length went.1.grew, length-append went.1.acts a.log)

  module _ {T E : Type 0} (result : Result T E) (acts : List Act) (grew : c.log ≡ acts ++ b.log) (counted : Counted b c) (moments : SendMoments frames result b c)
      (payloads : List (List ℕ)) (pending : NothingPending a.log) (journal : IsJournal (reads a.log) payloads) (place : tail ≡ tail_of payloads) where
    kept : KeepsOrAdds {T = Unit {0}} {E = AppendFault} (Ok u) payloads payload next a b
    kept = went.0 payloads pending journal place

    then_sent : SendsTo frames result b c
    then_sent = moments kept.pending

    none_between : sent b.log ≡ sent a.log
    none_between = (kept.each (reads b.log) (sent b.log) (counts_now b.log (length a.log) (reads b.log) (sent b.log) (leaves_reads b.log, refl))).1

    in_append : (image : List ℕ) (found : List (List ℕ)) → Left (length a.log) b.log image found → IsStoreMoment payloads payload frames a c image found
    in_append image found left =
        let m = kept.each image found left in
        ⊎_elim
        (λ before. inl (before, m.1))
        (λ after. inr (after.0, omega (arith, after.1, counted.calls), (0, omega arith, omega arith, m.1 ∙ sym (append-nil (sent a.log)))))
        m.0

    in_sends : (image : List ℕ) (found : List (List ℕ)) → Left (length b.log) c.log image found → IsStoreMoment payloads payload frames a c image found
    in_sends image found left =
        let m = then_sent.each image found left in
        inr (
          subst (λ (l : List ℕ). IsJournal l (payloads ++ payload ∷ [])) (sym m.image_is) kept.done,
          omega (arith, four, counted.calls),
          (m.number, m.few, omega (arith, m.made, four), m.found_are ∙ ap (λ (l : List (List ℕ)). l ++ take m.number frames) none_between),
        )

    pub each_moment : (image : List ℕ) (found : List (List ℕ)) → Left (length a.log) c.log image found → IsStoreMoment payloads payload frames a c image found
    each_moment image found left = ⊎_elim
        (λ first. in_append image found first)
        (λ second. in_sends image found (subst (λ (l : List Act). Left (length b.log) l image found) (sym grew) second))
        (left_split acts b.log (length a.log) image found later (subst (λ (l : List Act). Left (length a.log) l image found) grew left))

    pub at_last : HasStored next (payloads ++ payload ∷ []) c
    at_last = record {
      place = kept.place;
      pending = then_sent.pending;
      journal = subst (λ (l : List ℕ). IsJournal l (payloads ++ payload ∷ [])) (sym then_sent.image) kept.done;
    }

  pub moments_all : (E : Type 0) (v w : Unit {0}) → SendsSo {E = E} frames (Ok v) b c → Stores (Ok w) tail next payload frames a c
  moments_all E v w s = λ payloads pending journal place. record {
    each = each_moment {E = E} (Ok v) s.0.acts s.0.grew s.0.counted s.1 payloads pending journal place;
    added = at_last {E = E} (Ok v) s.0.acts s.0.grew s.0.counted s.1 payloads pending journal place;
  }

  pub moments_some : {E : Type 0} (e : E) → SendsSo frames (Err e) b c → Stores (Err LineFault) tail next payload frames a c
  moments_some e s = λ payloads pending journal place. record {
    each = each_moment {T = Unit {0}} (Err e) s.0.acts s.0.grew s.0.counted s.1 payloads pending journal place;
    added = at_last {T = Unit {0}} (Err e) s.0.acts s.0.grew s.0.counted s.1 payloads pending journal place;
  }

-- an append sends nothing
none_off : (at : ℕ) (bytes : List ℕ) (acts log : List Act) → IsBrokenOff at bytes acts → sent (acts ++ log) ≡ sent log
none_off at bytes _ log unwritten = refl
none_off at bytes _ log (torn found) = refl
none_off at bytes _ log written = refl
none_off at bytes _ log unsynced = refl

none_sent : (tail : ℕ) (framed : List ℕ) (acts log : List Act) → IsAppendBrokenOff tail framed acts → sent (acts ++ log) ≡ sent log
none_sent tail framed acts log off = ⊎_elim
    (λ first. none_off tail framed acts log first)
    (λ second. ap (λ (l : List Act). sent (l ++ log)) second.2 ∙ ap sent (append_assoc second.0 (secured tail framed) log) ∙ none_off (tail - 1) _ second.0 (secured tail framed ++ log) second.1)
    off

-- what is sent, by the calls
pub calls_send : (tail : ℕ) (framed : List ℕ) (frames : List (List ℕ)) (result : Result (Unit {0}) ForwardFault) (a b : Told) → StoreCalls tail framed frames result a b → StoreSends frames result a b
calls_send tail framed frames (Ok u) a b ran =
    ap sent (ran.grew ∙ ap (λ (l : List Act). l ++ a.log) ran.are ∙ append_assoc (sends frames) (stored tail framed) a.log)
    ∙ sends_sent frames (stored tail framed ++ a.log)
calls_send tail framed frames (Err SiteFault) a b ran = ap sent ran.grew ∙ none_sent tail framed ran.acts a.log ran.are
calls_send tail framed frames (Err LineFault) a b ran =
    let last = ran.are.0 in
    let off = ran.are.1 in
    let is : sent b.log ≡ sent (last ++ (stored tail framed ++ a.log)) = ap sent (ran.grew ∙ ap (λ (l : List Act). l ++ a.log) ran.are.2 ∙ append_assoc last (stored tail framed) a.log) in
    (off.number, off.some, ⊎_elim (λ out. inl (is ∙ out)) (λ more. inr (is ∙ more)) (off_sent frames last off (stored tail framed ++ a.log)))
calls_send tail framed frames (Err (JournalFull t n)) a b same = ap (λ (t : Told). sent t.log) same
