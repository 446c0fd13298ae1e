-- A step that adds an entry, by what storing its record says.
use Rattle.std.proofs.Common.{◌≡◌, ⊎_elim, ℕ, ◌+◌, ◌-◌, ◌<◌, ◌≤◌, Bool, true, false, List, [], ◌∷◌, ◌++◌, length, take, refl, sym, ◌∙◌, ap, subst, Result, Ok, Err, append-nil, length-append, arith}
use Rattle.std.proofs.Math.Seq.{take-append_seam}
use Rattle.std.specs.Int.{to_be_bytes, w32}
use Rattle.site_core.specs.Log.{sent}
use Rattle.site_core.specs.Told.{Told}
use Rattle.torn_journal.specs.Journal.{closed_gate, framed_of, payload_of}
use Rattle.torn_journal.specs.Limits.{greatest_tail}
use Rattle.store_forward.specs.declared.faults.ForwardFault.{ForwardFault}
use Rattle.store_forward.specs.declared.faults.ForwardFault.TheVariants as forwards
use Rattle.store_forward.specs.Storing.{IfStored}
use Rattle.journaled_list.specs.Loading.{Found}
use Rattle.journaled_list.specs.Payloads.{IsGroup}
use Rattle.journaled_list.specs.Reading.{with_entry}
use Rattle.journaled_list.specs.Ready.{IsReady}
use Rattle.journaled_list.specs.Rules.{Rules, Listed}
use Rattle.journaled_list.specs.Storing.{IsStoringMoment, StoresAll}
use Rattle.journaled_steps.specs.Node.{Node, IsLive}
use Rattle.journaled_steps.specs.Steps.{HandlesAll, IsStepMoment, answered, live_after, record_for, stores_and_sends}

-- a payload is found between its length and the gate
pub payload_found : (payload : List ℕ) → payload_of (framed_of payload) ≡ payload
payload_found payload =
    let long : length (framed_of payload) - 5 ≡ length payload = omega (arith, length-append (to_be_bytes w32 (length payload) ++ payload) (closed_gate ∷ []), length-append (to_be_bytes w32 (length payload)) payload) in
    ap (λ n. take n (payload ++ closed_gate ∷ [])) long ∙ take-append_seam payload (closed_gate ∷ [])

-- the journal isn't full
abbrev pub IsNeverFull : Result (Unit {0}) ForwardFault → Type 0
IsNeverFull result = (tail need : ℕ) → result ≡ Err (forwards.JournalFull tail need) → ⊥

abbrev full_of : ℕ → ℕ → Result (Unit {0}) ForwardFault
full_of tail need = Err (forwards.JournalFull tail need)

-- where there is room
pub never_full : (result : Result (Unit {0}) ForwardFault) (tail long : ℕ) → tail + long ≤ greatest_tail
    → (result ≡ Err (forwards.JournalFull tail long) → greatest_tail < tail + long)
    → ((t n : ℕ) → result ≡ Err (forwards.JournalFull t n) → (t ≡ tail) × (n ≡ long)) → IsNeverFull result
never_full result tail long room full only t n is =
    let told = only t n is in
    let wrong = full (is ∙ ap (λ k. full_of k n) told.0 ∙ ap (λ k. full_of tail k) told.1) in
    absurd (omega (arith, room, wrong))

module _ {O E X : Type 0} (rules : Rules O E) (outcome : X) (x : E) (framed : List ℕ) (is : framed ≡ record_for rules x) (before now : Listed O E) (grown : now ≡ with_entry before x)
    (follows : rules.MayFollow before.opening before.entries x) (frames : List (List ℕ)) (last tail last_now tail_now : ℕ) (a b : Told) where
  abbrev was : Node O E
  was = record { list = before; last = last; tail = tail; live = true }

  abbrev is_now : Bool → Node O E
  is_now live = record { list = now; last = last_now; tail = tail_now; live = live }

  -- the group of this one entry
  group_of_one : IsGroup rules before.opening before.entries (x ∷ []) (payload_of framed)
  group_of_one = record {
    some = omega arith;
    spells = ap payload_of is ∙ payload_found (rules.entry_bytes x) ∙ sym (append-nil (rules.entry_bytes x));
    lawful = (follows, tt);
  }

  landed_at : (image : List ℕ) (found : List (List ℕ)) → IsStoringMoment rules before last (x ∷ []) frames a b image found → IsStepMoment rules before last (stores_and_sends x frames outcome) a b image found
  landed_at image found m = ⊎_elim
      (λ none. record {
        kept = false;
        count = 0;
        in_order = record { few = omega arith; unkept = λ some unkept. refl };
        stands = none.0;
        found_are = none.1 ∙ sym (append-nil (sent a.log));
        secured = λ some kept. absurd cc;
        made = omega arith;
      })
      (λ some. record {
        kept = true;
        count = some.2.0;
        in_order = record { few = some.2.1; unkept = λ added unkept. absurd cc };
        stands = some.0;
        found_are = some.2.3;
        secured = λ added kept. some.1;
        made = some.2.2;
      })
      m

  -- the condition of the next step
  again : last_now ≡ 1 → IsReady rules (record { list = with_entry before x; last = 1; tail = tail_now }) b → IsLive rules (is_now true) b
  again one ready = record {
    live = refl;
    ready = subst (λ (f : Found O E). IsReady rules f b) (λ k. record { list = sym grown k; last = sym one k; tail = tail_now }) ready;
  }

  pub stored_moments : (result : Result (Unit {0}) ForwardFault) → IsNeverFull result → IfStored result (last_now ≡ 1) (last_now ≡ last) → StoresAll rules result tail tail_now (payload_of framed) frames a b
      → HandlesAll rules (answered outcome result) (stores_and_sends x frames outcome) was (is_now (live_after (answered outcome result))) a b
  stored_moments (Ok done) never one stores live =
      let s = stores before last (x ∷ []) live.ready group_of_one in
      record { each = λ image found left. landed_at image found (s.each image found left); live = again one s.ready }
  stored_moments (Err forwards.LineFault) never one stores live =
      let s = stores before last (x ∷ []) live.ready group_of_one in
      record { each = λ image found left. landed_at image found (s.each image found left); live = again one s.ready }
  stored_moments (Err forwards.SiteFault) never one stores live =
      let s = stores before last (x ∷ []) live.ready group_of_one in
      record { each = λ image found left. landed_at image found (s.each image found left); live = tt }
  stored_moments (Err (forwards.JournalFull t n)) never one stores live = absurd (never t n refl)
