-- Which call of an append a stop breaks off, and what may stand then.
use Rattle.std.proofs.Common.{◌≡◌, ⊎_elim, ℕ, ◌+◌, ◌-◌, ◌<◌, ◌≤◌, List, [], ◌∷◌, ◌++◌, length, sym, ◌∙◌, ap, subst, false, arith, append_assoc, length-append}
use Rattle.site_core.specs.Log.{Act, reads, okays, NothingPending}
use Rattle.site_core.specs.Told.{Told, Ran}
use Rattle.site_core.proofs.Runs.{okays-append}
use Rattle.torn_journal.specs.Append.{secured, IsBrokenOff, IsAppendBrokenOff, IsBeforeOrAfter, IsStoppedAt, MayStand}
use Rattle.torn_journal.specs.Append.IsBrokenOff.{unwritten, torn, written, unsynced}
use Rattle.torn_journal.specs.Journal.{framed_of, tail_of, gate_of, open_gate, IsPayload, IsJournal}
use Rattle.torn_journal.specs.Limits.{greatest_tail}
use Rattle.torn_journal.proofs.BeforeOrAfter.{leaves_either}
use Rattle.torn_journal.proofs.Fronts.{tail_of-push}

-- a write and a sync that are broken off: one call went through at most, and two left a trace at most
record IsShort (acts : List Act) : Type 0 where
  through : okays acts ≤ 1
  traces : length acts ≤ 2

short : (at : ℕ) (bytes : List ℕ) {acts : List Act} → IsBrokenOff at bytes acts → IsShort acts
short at bytes unwritten = record { through = omega arith; traces = omega arith }
short at bytes (torn found) = record { through = omega arith; traces = omega arith }
short at bytes written = record { through = omega arith; traces = omega arith }
short at bytes unsynced = record { through = omega arith; traces = omega arith }

through_few : (tail : ℕ) (framed : List ℕ) (acts : List Act) → IsAppendBrokenOff tail framed acts → okays acts ≤ 3
through_few tail framed acts are = ⊎_elim
    (λ first. omega (arith, (short tail framed first).through))
    (λ second. omega (arith, (short (tail - 1) (open_gate ∷ []) second.1).through, ap okays second.2, okays-append second.0 (secured tail framed)))
    are

-- the stop was armed for the call that failed
pub stopped_at : (tail : ℕ) (framed : List ℕ) (old new : Told) → Ran false (IsAppendBrokenOff tail framed) old new → old.stops < new.stops → IsStoppedAt old.armed tail framed old new
stopped_at tail framed old new ran rose =
    let few = through_few tail framed ran.acts ran.are in
    let armed : okays ran.acts < old.armed = ⊎_elim (λ none. absurd (omega (arith, none, rose, ran.counted.stops))) (λ some. some) ran.unreached in
    record {
      acts = ran.acts;
      grew = ran.grew;
      are = ran.are;
      through = omega (arith, armed, rose, ran.counted.stops, ran.counted.armed, ran.ended.1);
      most = omega (arith, few, armed, rose, ran.counted.stops, ran.counted.armed, ran.ended.1);
      calls = omega (arith, armed, rose, ran.counted.stops, ran.counted.armed, ran.ended.1);
    }

-- at the first two calls the payload is lost
pub lost : (call tail : ℕ) (framed : List ℕ) (old new : Told) → IsStoppedAt call tail framed old new → call ≤ 2 → (payloads : List (List ℕ)) (payload image : List ℕ) → IsBeforeOrAfter payloads payload old new image → IsJournal image payloads
lost call tail framed old new stopped early payloads payload image stands = ⊎_elim
    (λ before. before)
    (λ after. absurd (omega (arith, after.1, stopped.calls, early)))
    stands

-- from the trace of the gate's write on either list may stand
pub either : (call tail : ℕ) (framed : List ℕ) (old new : Told) → (stopped : IsStoppedAt call tail framed old new) → 3 ≤ length stopped.acts
    → (payloads : List (List ℕ)) (payload : List ℕ) → NothingPending old.log → IsJournal (reads old.log) payloads → tail ≡ tail_of payloads → framed ≡ framed_of payload → IsPayload payload → tail + length framed ≤ greatest_tail
    → (3 ≤ call) × MayStand new.log payloads × MayStand new.log (payloads ++ payload ∷ [])
either call tail framed old new stopped traced payloads payload pending journal place is sized room = ⊎_elim
    (λ first. absurd (omega (arith, traced, (short tail framed first).traces)))
    (λ second.
    let last = second.0 in
    let count : okays stopped.acts ≡ okays last + 2 = ap okays second.2 ∙ okays-append last (secured tail framed) in
    let long : length stopped.acts ≡ length last + 2 = ap length second.2 ∙ length-append last (secured tail framed) in
    let off : IsBrokenOff (gate_of payloads) (open_gate ∷ []) last = subst (λ n. IsBrokenOff n (open_gate ∷ []) last) (let at : tail - 1 ≡ gate_of payloads = omega (arith, place) in at) second.1 in
    let both = leaves_either payloads payload sized old.log pending journal (omega (arith, tail_of-push payloads payload, place, room, ap length is)) last off (omega (arith, traced, long)) in
    let log : last ++ (secured (gate_of payloads + 1) (framed_of payload) ++ old.log) ≡ new.log =
    ap (λ n. last ++ (secured n (framed_of payload) ++ old.log)) (sym place)
    ∙ ap (λ (l : List ℕ). last ++ (secured tail l ++ old.log)) (sym is)
    ∙ sym (append_assoc last (secured tail framed) old.log)
    ∙ ap (λ (l : List Act). l ++ old.log) (sym second.2)
    ∙ sym stopped.grew in (
      omega (arith, stopped.through, count),
      subst (λ (l : List Act). MayStand l payloads) log both.0,
      subst (λ (l : List Act). MayStand l (payloads ++ payload ∷ [])) log both.1,
    ))
    stopped.are
