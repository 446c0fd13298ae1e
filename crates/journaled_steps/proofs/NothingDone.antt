-- A step that changed nothing: memory ran out, or the journal is full.
use Rattle.std.proofs.Common.{◌≡◌, ℕ, Bool, true, false, List, length, refl, sym, ◌∙◌, ap, subst, Some, Err, append-nil, arith}
use Rattle.std.specs.Prelude.{Option}
use Rattle.site_core.specs.Log.{sent, Left}
use Rattle.site_core.specs.Told.{Told}
use Rattle.site_core.proofs.Moments.{only_now}
use Rattle.journaled_list.specs.Payloads.{Stands}
use Rattle.journaled_list.specs.Rules.{Rules, Listed}
use Rattle.journaled_steps.specs.declared.faults.StepFault.{StepFault}
use Rattle.journaled_steps.specs.declared.faults.StepFault.TheVariants.{SiteFault, LineFault, JournalFull, NoMemory}
use Rattle.journaled_steps.specs.Faults.{FaultReason}
use Rattle.journaled_steps.specs.Node.{Node, IsLive}
use Rattle.journaled_steps.specs.Steps.{Step, HandlesAll, HasRoom, IsStepMoment, NodeAfter, StepCalls, StepSends, TellsRoom, goes_on, record_for}

-- a fault that comes before any call, and leaves all as it was
abbrev pub IsQuiet : StepFault → Type 0
IsQuiet SiteFault = ⊥
IsQuiet LineFault = ⊥
IsQuiet (JournalFull tail need) = Unit {0}
IsQuiet NoMemory = Unit {0}

-- such is the one that is told where there is no room
pub room_is_quiet : (fault : StepFault) (tail long : ℕ) → TellsRoom (Err fault) tail long → IsQuiet fault
room_is_quiet SiteFault tail long none = none
room_is_quiet LineFault tail long none = none
room_is_quiet (JournalFull told need) tail long none = tt
room_is_quiet NoMemory tail long none = tt

pub quiet_goes_on : (fault : StepFault) → IsQuiet fault → goes_on fault ≡ true
quiet_goes_on SiteFault quiet = absurd quiet
quiet_goes_on LineFault quiet = absurd quiet
quiet_goes_on (JournalFull tail need) quiet = refl
quiet_goes_on NoMemory quiet = refl

abbrev pub node_at : {O E : Type 0} → Listed O E → ℕ → ℕ → Bool → Node O E
node_at list last tail live = record { list = list; last = last; tail = tail; live = live }

-- the node, where its parts are as they were
pub unmoved : {O E : Type 0} (fault : StepFault) → IsQuiet fault → (now before : Listed O E) (last_now last tail_now tail : ℕ) → now ≡ before → last_now ≡ last → tail_now ≡ tail
    → node_at now last_now tail_now (goes_on fault) ≡ node_at before last tail true
unmoved fault quiet now before last_now last tail_now tail list one place k = record {
  list = list k;
  last = one k;
  tail = place k;
  live = quiet_goes_on fault quiet k;
}

module _ {O E X : Type 0} (rules : Rules O E) where
  -- what stands where no call was made
  pub quiet_moment : (step : Step E X) (node : Node O E) (a : Told) → IsLive rules node a → (image : List ℕ) (found : List (List ℕ)) → Left (length a.log) a.log image found
      → IsStepMoment rules node.list node.last step a a image found
  quiet_moment step node a live image found left =
      let now = only_now a.log (length a.log) image found (omega arith) left in
      record {
        kept = false;
        count = 0;
        in_order = record { few = omega arith; unkept = λ some unkept. refl };
        stands = subst (λ (i : List ℕ). Stands rules i node.list node.last) (sym (live.ready.pending.image image now.0)) live.ready.stands;
        found_are = now.1 ∙ sym (append-nil (sent a.log));
        secured = λ some kept. absurd cc;
        made = omega arith;
      }

  -- memory ran out
  pub without_memory : (step : Step E X) (node : Node O E) (a : Told) → HandlesAll rules (Err NoMemory) step node node a a
  without_memory step node a live = record { each = quiet_moment step node a live; live = live }

  -- the journal is full
  pub without_room : (tail need : ℕ) (step : Step E X) (node : Node O E) (a : Told) → HandlesAll rules (Err (JournalFull tail need)) step node node a a
  without_room tail need step node a live = record { each = quiet_moment step node a live; live = live }

  -- one or the other, where the node is as it was
  pub quiet_moments : (fault : StepFault) → IsQuiet fault → (step : Step E X) (old new : Node O E) (a : Told) → new ≡ old → HandlesAll rules (Err fault) step old new a a
  quiet_moments SiteFault quiet step old new a same = absurd quiet
  quiet_moments LineFault quiet step old new a same = absurd quiet
  quiet_moments (JournalFull tail need) quiet step old new a same =
      subst (λ (n : Node O E). HandlesAll rules (Err (JournalFull tail need)) step old n a a) (sym same) (without_room tail need step old a)
  quiet_moments NoMemory quiet step old new a same =
      subst (λ (n : Node O E). HandlesAll rules (Err NoMemory) step old n a a) (sym same) (without_memory step old a)

  pub quiet_node : (fault : StepFault) → IsQuiet fault → (step : Step E X) (old new : Node O E) → new ≡ old → NodeAfter rules (Err fault) step old new
  quiet_node SiteFault quiet step old new same = absurd quiet
  quiet_node LineFault quiet step old new same = absurd quiet
  quiet_node (JournalFull tail need) quiet step old new same = same
  quiet_node NoMemory quiet step old new same = same

-- what an answer with such a fault says
module _ (X : Type 0) where
  pub quiet_calls : {O E : Type 0} (rules : Rules O E) (fault : StepFault) → IsQuiet fault → (adds : Option E) (frames : List (List ℕ)) (tail : ℕ) (a : Told) → StepCalls {T = X} rules adds frames tail (Err fault) a a
  quiet_calls rules SiteFault quiet adds frames tail a = absurd quiet
  quiet_calls rules LineFault quiet adds frames tail a = absurd quiet
  quiet_calls rules (JournalFull told need) quiet adds frames tail a = refl
  quiet_calls rules NoMemory quiet adds frames tail a = refl

  pub quiet_sends : (fault : StepFault) → IsQuiet fault → (frames : List (List ℕ)) (a : Told) → StepSends {T = X} frames (Err fault) a a
  quiet_sends SiteFault quiet frames a = absurd quiet
  quiet_sends LineFault quiet frames a = absurd quiet
  quiet_sends (JournalFull told need) quiet frames a = refl
  quiet_sends NoMemory quiet frames a = refl

  pub quiet_reason : (fault : StepFault) → IsQuiet fault → (a : Told) → FaultReason {T = X} (Err fault) a a
  quiet_reason SiteFault quiet a = absurd quiet
  quiet_reason LineFault quiet a = absurd quiet
  quiet_reason (JournalFull told need) quiet a = tt
  quiet_reason NoMemory quiet a = tt

  -- where the record of an entry has no room, this is told
  pub no_room : {O E : Type 0} (rules : Rules O E) (fault : StepFault) (x : E) (framed : List ℕ) (tail : ℕ) → framed ≡ record_for rules x → TellsRoom (Err fault) tail (length framed) → HasRoom {T = X} rules (Err fault) (Some x) tail
  no_room rules SiteFault x framed tail is none = absurd none
  no_room rules LineFault x framed tail is none = absurd none
  no_room rules (JournalFull told need) x framed tail is none = (none.0, none.1 ∙ ap length is, none.2)
  no_room rules NoMemory x framed tail is none = absurd none
