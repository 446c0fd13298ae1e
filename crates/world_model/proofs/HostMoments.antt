-- What stands at each moment of a host's step, and of what its resume sends, lies in a step of the world.
use Rattle.std.proofs.Common.{◌≡◌, ◌⊎◌, inl, inr, refl, sym, subst, ap, ◌∙◌, ℕ, zero, suc, ◌+◌, ◌-◌, ◌≤◌, leb, Bool, true, false, List, [], ◌∷◌, ◌++◌, append-nil, append_assoc, length, take, drop, Option, Some, None, arith}
use Rattle.std.specs.Prelude.{is_some}
use Rattle.std.proofs.lemmas.Bool.{leb-false, leb-true}
use Rattle.std.proofs.lemmas.List.{take-append-drop}
use Rattle.link_frames.specs.Frames.{Content as Frame}
use Rattle.host_ledger.specs.declared.entries.Entry.{Entry}
use Rattle.faim_model.specs.Landing.{InOrder, kept_of}
use Rattle.faim_model.specs.Sessions.{recent_with}
use Rattle.faim_model.specs.Steps.{HostStep}
use Rattle.faim_model.specs.Turns.{adds_to}
use Rattle.world_events.specs.declared.acts.Event.{Event}
use Rattle.world_events.specs.declared.outcomes.Kept.{Kept}
use Rattle.world_events.specs.declared.outcomes.Kept.TheVariants as entry
use Rattle.world_model.specs.Worlds.{World}
use Rattle.world_model.specs.Effects.{AtHost, Effect, effect}
use Rattle.world_model.specs.Ways.{Stopped, Through, Way, after, host_lands, is_kept, owed, resume_lands, resumed}
use Rattle.world_model.specs.WorldSteps.{MayGo, StopsAt, WorldStep, call_of, calls_before, told}
use Rattle.world_model.specs.Runs.{IsGrownFrom}
use Rattle.world_model.specs.Moments.{IsByCall, IsUpTo, LiesIn, SameHost}
use Rattle.world_model.proofs.Growing.{entries_grow, grows_on, host_grows, same_world, sends_grow}

-- a longer front of a list goes on from a shorter one
pub take_more : {A : Type 0} (n m : ℕ) (xs : List A) → n ≤ m → (later : List A) × (take m xs ≡ take n xs ++ later)
take_more zero m xs few = (take m xs, refl)
take_more (suc n) zero xs few = absurd (omega (arith, few))
take_more (suc n) (suc m) [] few = ([], refl)
take_more (suc n) (suc m) (x ∷ xs) few =
    let less : n ≤ m = omega (arith, few) in
    let more = take_more n m xs less in (more.0, ap (λ l. x ∷ l) more.1)

-- the world after an act that goes this way is the next one of a step
pub step_by : (w : World) (event : Event) (act : Effect) (way : Way) → effect w event.act ≡ act → MayGo w (call_of event.stop) act way
    → WorldStep w event (told w act way) (after w act way)
step_by w event act way about may = record {
  way = way;
  may = subst (λ (a : Effect). MayGo w (call_of event.stop) a way) (sym about) may;
  tells = ap (λ (a : Effect). told w a way) (sym about);
  gives = ap (λ (a : Effect). after w a way) (sym about);
}

-- where a stop at a call leaves a step that had come so far before
pub record IsStopBehind (call : ℕ) (adds : Bool) (frames : ℕ) (kept : Bool) : Type 0 where
  pub fate : Kept
  pub stop : StopsAt call adds frames fate (call - calls_before adds)
  pub covers : adds ≡ true → kept ≡ true → is_kept fate ≡ true

pub stop_behind : (call : ℕ) (adds : Bool) (frames : ℕ) (kept : Bool) → call ≤ calls_before adds + frames → (adds ≡ true → kept ≡ true → 3 ≤ call)
    → IsStopBehind call adds frames kept
stop_behind call false frames kept reached secured = record {
  fate = entry.Plain;
  stop = record { reached = reached; may_keep = tt; unsent = λ early. omega (arith, early); in_turn = λ late. inr (omega (arith, late)) };
  covers = λ some is. absurd cc;
}
stop_behind call true frames kept reached secured = by_call (leb 3 call) refl
  where
    by_call : (b : Bool) → leb 3 call ≡ b → IsStopBehind call true frames kept
    by_call true is = record {
      fate = entry.Kept;
      stop = record { reached = reached; may_keep = leb-true 3 call is; unsent = λ early. omega (arith, early); in_turn = λ late. inr (omega (arith, late)) };
      covers = λ some kept. refl;
    }
    by_call false is =
        let low = leb-false 3 call is in
        record {
          fate = entry.Lost;
          stop = record {
            reached = reached;
            may_keep = omega (arith, low);
            unsent = λ early. omega (arith, early);
            in_turn = λ late. inr (omega (arith, late));
          };
          covers = λ some kept. let high = secured some kept in absurd (omega (arith, low, high));
        }

-- an entry that is kept in one landing is kept in the other
abbrev pub KeepsToo : Bool → Bool → Bool → Type 0
KeepsToo adds kept more = adds ≡ true → kept ≡ true → more ≡ true

entries_more : (adds : Option Entry) (kept more : Bool) (es : List Entry) → KeepsToo (is_some adds) kept more
    → (newer : List Entry) × (adds_to (kept_of more adds) es ≡ newer ++ adds_to (kept_of kept adds) es)
entries_more adds false more es too = entries_grow (kept_of more adds) es
entries_more None true true es too = ([], refl)
entries_more None true false es too = ([], refl)
entries_more (Some x) true true es too = ([], refl)
entries_more (Some x) true false es too = absurd (let wrong : false ≡ true = too refl refl in cc)

lands_more : (w : World) (step : HostStep) (kept more : Bool) (n m : ℕ) → KeepsToo (is_some step.adds) kept more → n ≤ m
    → IsGrownFrom (host_lands w step kept n) (host_lands w step more m)
lands_more w step kept more n m too few =
    let sent = take_more n m step.sends few in
    record {
      config = refl;
      banks = refl;
      entries = entries_more step.adds kept more w.entries too;
      books = λ e. ([], refl);
      to_host = ([], sym (append-nil w.to_host));
      from_host = (sent.0, ap (λ (l : List Frame). w.from_host ++ l) sent.1 ∙ sym (append_assoc w.from_host (take n step.sends) sent.0));
    }

-- the host's list is that before the step or that with its entry
host_is : (w : World) (step : HostStep) (kept more : Bool) (n m : ℕ) → KeepsToo (is_some step.adds) kept more
    → SameHost (host_lands w step kept n) w ⊎ SameHost (host_lands w step kept n) (host_lands w step more m)
host_is w step false more n m too = inl (refl, refl)
host_is w step true more n m too = by_adds step.adds more too
  where
    by_adds : (adds : Option Entry) (more : Bool) → KeepsToo (is_some adds) true more
        → ((adds_to (kept_of true adds) w.entries ≡ w.entries) × (recent_with w.recent (kept_of true adds) ≡ w.recent))
        ⊎ ((adds_to (kept_of true adds) w.entries ≡ adds_to (kept_of more adds) w.entries)
        × (recent_with w.recent (kept_of true adds) ≡ recent_with w.recent (kept_of more adds)))
    by_adds None more too = inl (refl, refl)
    by_adds (Some x) true too = inr (refl, refl)
    by_adds (Some x) false too = absurd (let wrong : false ≡ true = too refl refl in cc)

-- a resume that goes on sends the rest
pub resume_more : (w : World) (n : ℕ) → IsGrownFrom (resume_lands w n) (resumed w)
resume_more w n = record {
  config = refl;
  banks = refl;
  entries = ([], refl);
  books = λ e. ([], refl);
  to_host = ([], sym (append-nil w.to_host));
  from_host = (
    drop n (owed w),
    ap (λ (l : List Frame). w.from_host ++ l) (sym (take-append-drop n (owed w))) ∙ sym (append_assoc w.from_host (take n (owed w)) (drop n (owed w))),
  );
}

module _ (w : World) (event : Event) where
  -- a landing from which another one goes on
  lies_before : (step : HostStep) (kept : Bool) (n : ℕ) (way : Way) (more : Bool) (m : ℕ) → effect w event.act ≡ AtHost step
      → MayGo w (call_of event.stop) (AtHost step) way → KeepsToo (is_some step.adds) kept more → n ≤ m
      → IsGrownFrom (host_lands w step more m) (after w (AtHost step) way) → SameHost (host_lands w step more m) (after w (AtHost step) way)
      → LiesIn w event (host_lands w step kept n)
  lies_before step kept n way more m about may too few grown same = record {
    x = told w (AtHost step) way;
    next = after w (AtHost step) way;
    step = step_by w event (AtHost step) way about may;
    begins = host_grows w step kept n;
    ends = grows_on (host_lands w step kept n) (host_lands w step more m) (after w (AtHost step) way) (lands_more w step kept more n m too few) grown;
    host = by_list (host_is w step kept more n m too);
    banks = λ e. inl refl;
  }
    where
      by_list : SameHost (host_lands w step kept n) w ⊎ SameHost (host_lands w step kept n) (host_lands w step more m)
          → SameHost (host_lands w step kept n) w ⊎ SameHost (host_lands w step kept n) (after w (AtHost step) way)
      by_list (inl before) = inl before
      by_list (inr later) = inr (later.0 ∙ same.0, later.1 ∙ same.1)

  module _ (step : HostStep) (about : effect w event.act ≡ AtHost step) where
    goes_by : (stop : Option ℕ) (way : Way) → call_of event.stop ≡ stop → MayGo w stop (AtHost step) way → MayGo w (call_of event.stop) (AtHost step) way
    goes_by stop way is may = subst (λ (x : Option ℕ). MayGo w x (AtHost step) way) (sym is) may

    lies_through : (stop : Option ℕ) (kept : Bool) (n : ℕ) → call_of event.stop ≡ stop → MayGo w stop (AtHost step) Through → InOrder step kept n
        → LiesIn w event (host_lands w step kept n)
    lies_through stop kept n is may in_order =
        lies_before step kept n Through true (length step.sends) about (goes_by stop Through is may) (λ some kept. refl) in_order.few
        (same_world (host_lands w step true (length step.sends))) (refl, refl)

    lies_stopped : (call : ℕ) (kept : Bool) (n : ℕ) → call_of event.stop ≡ Some call → call ≤ calls_before (is_some step.adds) + length step.sends
        → IsByCall call (is_some step.adds) kept n → LiesIn w event (host_lands w step kept n)
    lies_stopped call kept n is reached by =
        let behind = stop_behind call (is_some step.adds) (length step.sends) kept reached by.secured in
        let sent : ℕ = call - calls_before (is_some step.adds) in
        let landed : World = host_lands w step (is_kept behind.fate) sent in
        lies_before step kept n (Stopped behind.fate sent) (is_kept behind.fate) sent about (goes_by (Some call) (Stopped behind.fate sent) is behind.stop)
        behind.covers by.made (sends_grow landed (owed landed)) (refl, refl)

    host_lies_by : (stop : Option ℕ) (kept : Bool) (n : ℕ) → call_of event.stop ≡ stop → InOrder step kept n → IsUpTo stop (is_some step.adds) kept n
        → LiesIn w event (host_lands w step kept n)
    host_lies_by None kept n is in_order by = lies_through None kept n is refl in_order
    host_lies_by (Some call) kept n is in_order by = by_reach (leb call (calls_before (is_some step.adds) + length step.sends)) refl
      where
        by_reach : (b : Bool) → leb call (calls_before (is_some step.adds) + length step.sends) ≡ b → LiesIn w event (host_lands w step kept n)
        by_reach true reach = lies_stopped call kept n is (leb-true call (calls_before (is_some step.adds) + length step.sends) reach) by
        by_reach false reach = lies_through (Some call) kept n is (leb-false call (calls_before (is_some step.adds) + length step.sends) reach) in_order

    pub host_lies : (kept : Bool) (n : ℕ) → InOrder step kept n → IsUpTo (call_of event.stop) (is_some step.adds) kept n
        → LiesIn w event (host_lands w step kept n)
    host_lies kept n in_order by = host_lies_by (call_of event.stop) kept n refl in_order by

    -- what the resume after a stop has sent
    pub resume_lies : (call : ℕ) (fate : Kept) (sent n : ℕ) → call_of event.stop ≡ Some call → StopsAt call (is_some step.adds) (length step.sends) fate sent
        → LiesIn w event (resume_lands (host_lands w step (is_kept fate) sent) n)
    resume_lies call fate sent n is stop =
        let landed : World = host_lands w step (is_kept fate) sent in
        let way : Way = Stopped fate sent in
        record {
          x = told w (AtHost step) way;
          next = after w (AtHost step) way;
          step = step_by w event (AtHost step) way about (goes_by (Some call) way is stop);
          begins = grows_on w landed (resume_lands landed n) (host_grows w step (is_kept fate) sent) (sends_grow landed (take n (owed landed)));
          ends = resume_more landed n;
          host = inr (refl, refl);
          banks = λ e. inl refl;
        }
