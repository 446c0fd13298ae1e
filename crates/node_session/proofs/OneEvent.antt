-- The moments of one event: of something that arrives and is handled.
use Rattle.std.proofs.Common.{◌≡◌, ℕ, ◌≤◌, Bool, true, false, List, [], ◌∷◌, ◌++◌, length, take, refl, sym, ◌∙◌, ap, subst, Option, Some, None, Result, Ok, Err, append-nil, arith}
use Rattle.std.specs.Prelude.{IsSome}
use Rattle.site_core.specs.Log.{Act, sent}
use Rattle.site_core.specs.Told.{Told, Counted, Ran}
use Rattle.site_core.proofs.Runs.{counted_same}
use Rattle.journaled_list.specs.Payloads.{Stands}
use Rattle.journaled_list.specs.Rules.{Rules, Listed}
use Rattle.journaled_steps.specs.declared.faults.StepFault.{StepFault}
use Rattle.journaled_steps.specs.declared.faults.StepFault.TheVariants.{SiteFault, LineFault, JournalFull, NoMemory}
use Rattle.journaled_steps.specs.Steps.{IsStepMoment, Step, StepCalls, kept_of, last_after, list_with}
use Rattle.line_sessions.specs.Plays.{IsMoment, all_sent}
use Rattle.node_session.specs.Kinds.{IsFit, Kind, KeptStands, part_of}
use Rattle.node_session.specs.Kinds.Event.{Came}

-- the log went on, and the numbers with it
pub record HasGrown (old new : Told) : Type 0 where
  pub acts : List Act
  pub grows : new.log ≡ acts ++ old.log
  pub counted : Counted old new

pub grown_by : (whole : Bool) (P : List Act → Type 0) (old new : Told) → Ran whole P old new → HasGrown old new
grown_by whole P old new ran = record { acts = ran.acts; grows = ran.grew; counted = ran.counted }

pub grown_nowhere : (old new : Told) → new ≡ old → HasGrown old new
grown_nowhere old new same = subst (λ (t : Told). HasGrown old t) (sym same) (record { acts = []; grows = refl; counted = counted_same old })

pub step_grown : {O E X : Type 0} (rules : Rules O E) (adds : Option E) (frames : List (List ℕ)) (tail : ℕ) (result : Result X StepFault) (old new : Told) → StepCalls rules adds frames tail result old new → HasGrown old new
step_grown rules None frames tail (Ok done) old new calls = grown_by true _ old new calls
step_grown rules None frames tail (Err LineFault) old new calls = grown_by false _ old new calls
step_grown rules None frames tail (Err SiteFault) old new calls = absurd calls
step_grown rules None frames tail (Err (JournalFull t n)) old new calls = grown_nowhere old new calls
step_grown rules None frames tail (Err NoMemory) old new calls = grown_nowhere old new calls
step_grown rules (Some x) frames tail (Ok done) old new calls = grown_by true _ old new calls
step_grown rules (Some x) frames tail (Err LineFault) old new calls = grown_by false _ old new calls
step_grown rules (Some x) frames tail (Err SiteFault) old new calls = grown_by false _ old new calls
step_grown rules (Some x) frames tail (Err (JournalFull t n)) old new calls = grown_nowhere old new calls
step_grown rules (Some x) frames tail (Err NoMemory) old new calls = grown_nowhere old new calls

module _ {O E X A K : Type 0} (kind : Kind O E X A K) (fit : IsFit kind) (kept : K) (a : A) where
  abbrev step : Step E X
  step = kind.step (kind.list_of kept) a

  -- the event sends what its step does
  pub sent_alone : all_sent (part_of kind) kept (Came a ∷ []) ≡ step.sends
  sent_alone = append-nil step.sends

  many_sent : length (all_sent (part_of kind) kept (Came a ∷ [])) ≡ length step.sends
  many_sent = ap length sent_alone

  -- what stands with what the step adds stands for what is kept then
  stands_with : (image : List ℕ) → Stands kind.rules image (list_with step.adds (kind.list_of kept)) (last_after (kind.recent_of kept) step.adds) → KeptStands kind image (kind.after kept a)
  stands_with image stands =
      subst (λ (l : Listed O E). Stands kind.rules image l (kind.recent_of (kind.after kept a))) (sym (fit.list_after kept a))
      (subst (λ (n : ℕ). Stands kind.rules image (list_with step.adds (kind.list_of kept)) n) (sym (fit.recent_after kept a)) stands)

  module _ (before : List (List ℕ)) (image : List ℕ) (found : List (List ℕ)) (count : ℕ) (few : count ≤ length step.sends) (found_are : found ≡ before ++ take count step.sends) where
    out : found ≡ before ++ ([] ++ take count (all_sent (part_of kind) kept (Came a ∷ [])))
    out = found_are ∙ ap (λ (l : List (List ℕ)). before ++ take count l) (sym sent_alone)

    -- what the step makes of the list stands
    moment_after : KeptStands kind image (kind.after kept a) → IsMoment (part_of kind) kept (Came a ∷ []) before image found
    moment_after stands = record {
      done = [];
      begun = Came a ∷ [];
      later = [];
      are = refl;
      one = omega arith;
      stays = true;
      count = count;
      stands = stands;
      few = omega (arith, few, many_sent);
      unsent = λ e. absurd cc;
      found_are = out;
    }

    -- the list stands as it was, with nothing sent
    moment_before : KeptStands kind image kept → count ≡ 0 → IsMoment (part_of kind) kept (Came a ∷ []) before image found
    moment_before stands none = record {
      done = [];
      begun = Came a ∷ [];
      later = [];
      are = refl;
      one = omega arith;
      stays = false;
      count = count;
      stands = stands;
      few = omega (arith, few, many_sent);
      unsent = λ e. none;
      found_are = out;
    }

    moment_by : (stays : Bool) (adds : Option E) → adds ≡ step.adds → (IsSome adds → stays ≡ false → count ≡ 0)
        → Stands kind.rules image (list_with (kept_of stays adds) (kind.list_of kept)) (last_after (kind.recent_of kept) (kept_of stays adds))
        → IsMoment (part_of kind) kept (Came a ∷ []) before image found
    moment_by true adds same unkept stands =
        moment_after (stands_with image (subst (λ (o : Option E). Stands kind.rules image (list_with o (kind.list_of kept)) (last_after (kind.recent_of kept) o)) same stands))
    moment_by false None same unkept stands =
        moment_after (stands_with image (subst (λ (o : Option E). Stands kind.rules image (list_with o (kind.list_of kept)) (last_after (kind.recent_of kept) o)) same stands))
    moment_by false (Some x) same unkept stands = moment_before stands (unkept refl refl)

  pub step_moment : (old new : Told) (image : List ℕ) (found : List (List ℕ)) → IsStepMoment kind.rules (kind.list_of kept) (kind.recent_of kept) step old new image found
      → IsMoment (part_of kind) kept (Came a ∷ []) (sent old.log) image found
  step_moment old new image found m = moment_by (sent old.log) image found m.count m.in_order.few m.found_are m.kept step.adds refl m.in_order.unkept m.stands
