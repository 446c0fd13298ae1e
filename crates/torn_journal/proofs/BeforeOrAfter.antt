-- From the calls of an append to what a stop at any moment of it may leave.
use Rattle.std.proofs.Common.{◌≡◌, ◌⊎◌, inl, inr, ⊎_elim, ℕ, ◌+◌, ◌-◌, ◌≤◌, List, [], ◌∷◌, ◌++◌, length, sym, ◌∙◌, ap, subst, append_assoc, true, false, Ok, Err, Result, Option, arith, length-append}
use Rattle.std.specs.List.{All}
use Rattle.std.proofs.lemmas.List.Elements.{All-push}
use Rattle.std.specs.Result.{IsErr}
use Rattle.faim_base.specs.declared.faults.Failed.{Failed}
use Rattle.site_core.specs.Image.{put}
use Rattle.site_core.specs.Log.{Act, reads, sent, Left, NothingPending}
use Rattle.site_core.specs.Told.{Told, Goes, Ran}
use Rattle.site_core.proofs.Moments.{only_reads, synced}
use Rattle.site_core.proofs.Runs.{goes_nowhere}
use Rattle.torn_journal.specs.declared.faults.AppendFault.{AppendFault}
use Rattle.torn_journal.specs.Append.{secured, IsBrokenOff, IsAppend, IsAppendBrokenOff, Adds, IsBeforeOrAfter, Appends, MayStand}
use Rattle.torn_journal.specs.Journal.{framed_of, front_of, tail_of, open_gate, IsPayload, IsJournal}
use Rattle.torn_journal.specs.Limits.{greatest_tail}
use Rattle.torn_journal.proofs.AfterTheGate.{HasGate, HasRecord, shut_gate, opened_gate, some_gate}
use Rattle.torn_journal.proofs.Fronts.{tail_of-push}
use Rattle.torn_journal.proofs.StopsOfAnAppend.{first_left, second_left, done_left, reads_done, leaves, as_recorded}

untouched : (e : AppendFault) (tail next : ℕ) (payload : List ℕ) (x : Told) → Appends {T = Unit {0}} (Err e) tail next payload x x
untouched e tail next payload x payloads pending journal place = record {
  each = λ image frames left. let now = only_reads x.log image frames pending left in (inl (subst (λ (l : List ℕ). IsJournal l payloads) (sym now.0) journal), now.1);
  pending = tt;
  done = tt;
  place = tt;
}

-- a full journal
pub nothing_done : (e : AppendFault) (tail next : ℕ) (payload : List ℕ) (a : Option Told) → Goes a a (Appends {T = Unit {0}} (Err e) tail next payload)
nothing_done e tail next payload a = goes_nowhere (Appends {T = Unit {0}} (Err e) tail next payload) a (untouched e tail next payload)

module _ (payloads : List (List ℕ)) (payload : List ℕ) (sized : IsPayload payload) (log : List Act) (pending : NothingPending log) (journal : IsJournal (reads log) payloads) (small : tail_of (payloads ++ payload ∷ []) ≤ greatest_tail) where
  abbrev front : List ℕ
  front = front_of payloads

  more : All IsPayload (payloads ++ payload ∷ [])
  more = All-push IsPayload payloads payload journal.each sized

  abbrev Found : ℕ → List ℕ → List (List ℕ) → Type 0
  Found count image frames = (IsJournal image payloads ⊎ (IsJournal image (payloads ++ payload ∷ []) × (3 ≤ count))) × (frames ≡ sent log)

  as_before : (image : List ℕ) → HasGate front journal.gate image → IsJournal image payloads
  as_before image has = shut_gate payloads journal.gate image journal.shut journal.each journal.small has

  either : (image : List ℕ) → HasRecord front (framed_of payload) image → IsJournal image payloads ⊎ IsJournal image (payloads ++ payload ∷ [])
  either image has = some_gate payloads payload image journal.each more small has

  pub part_left : (acts : List Act)
      → IsBrokenOff (length front + 1) (framed_of payload) acts ⊎ ((last : List Act) × IsBrokenOff (length front) (open_gate ∷ []) last × (acts ≡ last ++ secured (length front + 1) (framed_of payload)))
      → (image : List ℕ) (frames : List (List ℕ)) → Left (length log) (acts ++ log) image frames → Found (length acts) image frames
  part_left acts (inl first) image frames left =
      let found = first_left log front (framed_of payload) journal.rest journal.gate journal.is pending (omega arith) first image frames left in
      (inl (as_before image found.0), found.1)
  part_left acts (inr second) image frames left =
      let same = second.2 in
      let moved : Left (length log) (second.0 ++ (secured (length front + 1) (framed_of payload) ++ log)) image frames =
      subst (λ (l : List Act). Left (length log) l image frames) (ap (λ (l : List Act). l ++ log) same ∙ append_assoc second.0 (secured (length front + 1) (framed_of payload)) log) left in
      let found = second_left log front (framed_of payload) journal.rest journal.gate journal.is pending (omega arith) second.1 image frames moved in
      let count : length acts ≡ length second.0 + 2 = ap length same ∙ length-append second.0 (secured (length front + 1) (framed_of payload)) in (
        ⊎_elim (λ has. inl (as_before image has)) (λ has. ⊎_elim (λ before. inl before) (λ after. inr (after, omega (arith, count, has.1))) (either image has.0)) found.0,
        found.1,
      )

  pub all_left : (image : List ℕ) (frames : List (List ℕ)) → Left (length log) (secured (length front) (open_gate ∷ []) ++ (secured (length front + 1) (framed_of payload) ++ log)) image frames → (IsJournal image payloads ⊎ IsJournal image (payloads ++ payload ∷ [])) × (frames ≡ sent log)
  all_left image frames left =
      let found = done_left log front (framed_of payload) journal.rest journal.gate journal.is pending (omega arith) image frames left in
      (⊎_elim (λ has. inl (as_before image has)) (either image) found.0, found.1)

  pub all_reads : IsJournal (reads (secured (length front) (open_gate ∷ []) ++ (secured (length front + 1) (framed_of payload) ++ log))) (payloads ++ payload ∷ [])
  all_reads = opened_gate payloads payload _ more small (reads_done log front (framed_of payload) journal.rest journal.gate journal.is pending (omega arith))

  -- a gate that is broken off and left its trace may leave either list
  pub leaves_either : (last : List Act) → IsBrokenOff (length front) (open_gate ∷ []) last → 1 ≤ length last
      → MayStand (last ++ (secured (length front + 1) (framed_of payload) ++ log)) payloads × MayStand (last ++ (secured (length front + 1) (framed_of payload) ++ log)) (payloads ++ payload ∷ [])
  leaves_either last off some =
      let image = put 0 (reads log) (length front + 1) (framed_of payload) in
      let left = leaves log front (framed_of payload) journal.rest journal.gate journal.is pending (omega arith) off some in (
        (image, left [] (omega arith), as_before image (as_recorded log front (framed_of payload) journal.rest journal.gate journal.is pending (omega arith))),
        (put 0 image (length front) (open_gate ∷ []), left (open_gate ∷ []) (omega arith), all_reads),
      )

module _ (payloads : List (List ℕ)) (payload : List ℕ) (sized : IsPayload payload) (tail : ℕ) (place : tail ≡ tail_of payloads) (a b : Told) (pending : NothingPending a.log) (journal : IsJournal (reads a.log) payloads) (room : tail + length (framed_of payload) ≤ greatest_tail) where
  abbrev gate_at : ℕ
  gate_at = length (front_of payloads)

  at_gate : tail - 1 ≡ gate_at
  at_gate = omega (arith, place)

  small : tail_of (payloads ++ payload ∷ []) ≤ greatest_tail
  small = omega (arith, tail_of-push payloads payload, place, room)

  pub each_part : (ran : Ran false (IsAppendBrokenOff tail (framed_of payload)) a b) (image : List ℕ) (frames : List (List ℕ)) → Left (length a.log) b.log image frames → IsBeforeOrAfter payloads payload a b image × (frames ≡ sent a.log)
  each_part ran image frames left =
      let moved : Left (length a.log) (ran.acts ++ a.log) image frames = subst (λ (l : List Act). Left (length a.log) l image frames) ran.grew left in
      let placed : IsBrokenOff (gate_at + 1) (framed_of payload) ran.acts ⊎ ((last : List Act) × IsBrokenOff gate_at (open_gate ∷ []) last × (ran.acts ≡ last ++ secured (gate_at + 1) (framed_of payload))) =
      ⊎_elim
      (λ first. inl (subst (λ n. IsBrokenOff n (framed_of payload) ran.acts) place first))
      (λ second. inr (second.0, subst (λ n. IsBrokenOff n (open_gate ∷ []) second.0) at_gate second.1, second.2 ∙ ap (λ n. second.0 ++ secured n (framed_of payload)) place))
      ran.are in
      let found = part_left payloads payload sized a.log pending journal small ran.acts placed image frames moved in
      (⊎_elim (λ before. inl before) (λ after. inr (after.0, omega (arith, after.1, ran.counted.traced, ap length ran.grew, length-append ran.acts a.log))) found.0, found.1)

  pub whole_log : (ran : Ran true (IsAppend tail (framed_of payload)) a b) → b.log ≡ secured gate_at (open_gate ∷ []) ++ (secured (gate_at + 1) (framed_of payload) ++ a.log)
  whole_log ran = ran.grew ∙ ap (λ (l : List Act). l ++ a.log) (ran.are ∙ ap (λ n. secured n (open_gate ∷ []) ++ secured tail (framed_of payload)) at_gate ∙ ap (λ n. secured gate_at (open_gate ∷ []) ++ secured n (framed_of payload)) place)

  pub each_done : (ran : Ran true (IsAppend tail (framed_of payload)) a b) (image : List ℕ) (frames : List (List ℕ)) → Left (length a.log) b.log image frames → IsBeforeOrAfter payloads payload a b image × (frames ≡ sent a.log)
  each_done ran image frames left =
      let moved = subst (λ (l : List Act). Left (length a.log) l image frames) (whole_log ran) left in
      let found = all_left payloads payload sized a.log pending journal small image frames moved in
      let count = ap length ran.are in
      (⊎_elim (λ before. inl before) (λ after. inr (after, omega (arith, count, ran.counted.traced, ap length ran.grew, length-append ran.acts a.log))) found.0, found.1)

  pub reads_whole : (ran : Ran true (IsAppend tail (framed_of payload)) a b) → IsJournal (reads b.log) (payloads ++ payload ∷ [])
  reads_whole ran = subst (λ (l : List Act). IsJournal (reads l) (payloads ++ payload ∷ [])) (sym (whole_log ran)) (all_reads payloads payload sized a.log pending journal small)

  pub settled_whole : (ran : Ran true (IsAppend tail (framed_of payload)) a b) → NothingPending b.log
  settled_whole ran = subst NothingPending (sym (whole_log ran)) (synced _)

-- an append that a call broke off
pub broken_off : (e : Failed) (result : Result (Unit {0}) AppendFault) → IsErr result → (t tail next : ℕ) → t ≡ tail → (framed payload : List ℕ) → framed ≡ framed_of payload → IsPayload payload → t + length framed ≤ greatest_tail → (a b : Told) → Adds t framed (Err e) a b → Appends result tail next payload a b
broken_off e (Ok u) err t tail next is framed payload same sized room a b ran = absurd cc
broken_off e (Err d) err t tail next is framed payload same sized room a b ran = λ payloads pending journal place.
    let ran' = subst (λ (l : List ℕ). Ran false (IsAppendBrokenOff tail l) a b) same (subst (λ n. Ran false (IsAppendBrokenOff n framed) a b) is ran) in
    record {
      each = each_part payloads payload sized tail place a b pending journal (omega (arith, room, is, ap length same)) ran';
      pending = tt;
      done = tt;
      place = tt;
    }

-- an append that went through
pub went_through : (u v : Unit {0}) (t tail next : ℕ) → t ≡ tail → (framed payload : List ℕ) → next ≡ t + length framed → framed ≡ framed_of payload → IsPayload payload → t + length framed ≤ greatest_tail → (a b : Told) → Adds {E = Failed} t framed (Ok u) a b → Appends {E = AppendFault} (Ok v) tail next payload a b
went_through u v t tail next is framed payload on same sized room a b ran = λ payloads pending journal place.
    let ran' = subst (λ (l : List ℕ). Ran true (IsAppend tail l) a b) same (subst (λ n. Ran true (IsAppend n framed) a b) is ran) in
    let room' : tail + length (framed_of payload) ≤ greatest_tail = omega (arith, room, is, ap length same) in
    record {
      each = each_done payloads payload sized tail place a b pending journal room' ran';
      pending = settled_whole payloads payload sized tail place a b pending journal room' ran';
      done = reads_whole payloads payload sized tail place a b pending journal room' ran';
      place = omega (arith, on, is, place, ap length same, tail_of-push payloads payload);
    }
