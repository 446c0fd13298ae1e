-- A step that adds nothing, by what sending its frames says.
use Rattle.std.proofs.Common.{ℕ, ◌-◌, false, List, sym, subst, Result, Ok, Err, arith}
use Rattle.site_core.specs.Told.{Told}
use Rattle.torn_journal.specs.Journal.{IsJournal}
use Rattle.faim_base.specs.declared.faults.Failed.{Failed}
use Rattle.store_forward.specs.Sending.{SendsTo, SendMoments, IsSendMoment}
use Rattle.journaled_list.specs.Payloads.{Stands}
use Rattle.journaled_list.specs.Rules.{Rules}
use Rattle.journaled_steps.specs.declared.faults.StepFault.{StepFault}
use Rattle.journaled_steps.specs.declared.faults.StepFault.TheVariants.{LineFault}
use Rattle.journaled_steps.specs.Node.{Node, IsLive}
use Rattle.journaled_steps.specs.Steps.{HandlesAll, IsStepMoment, sends_only}

-- the answer of such a step, by that of the sending
abbrev pub told_line : {X : Type 0} → X → Result (Unit {0}) Failed → Result X StepFault
told_line outcome (Ok done) = Ok outcome
told_line outcome (Err fault) = Err LineFault

module _ {O E X : Type 0} (rules : Rules O E) (frames : List (List ℕ)) (outcome : X) (node : Node O E) (a b : Told) where
  sent_at : (image : List ℕ) (found : List (List ℕ)) → IsLive rules node a → IsSendMoment frames a.log (b.calls - a.calls) image found
      → IsStepMoment rules node.list node.last (sends_only frames outcome) a b image found
  sent_at image found live m = record {
    kept = false;
    count = m.number;
    in_order = record { few = m.few; unkept = λ some unkept. absurd cc };
    stands = subst (λ (i : List ℕ). Stands rules i node.list node.last) (sym m.image_is) live.ready.stands;
    found_are = m.found_are;
    secured = λ some kept. absurd cc;
    made = omega (arith, m.made);
  }

  still_live : (result : Result (Unit {0}) Failed) → IsLive rules node a → SendsTo frames result a b → IsLive rules node b
  still_live result live s = record {
    live = live.live;
    ready = record {
      stands = record {
        payloads = live.ready.stands.payloads;
        journal = subst (λ (i : List ℕ). IsJournal i live.ready.stands.payloads) (sym s.image) live.ready.stands.journal;
        stand = live.ready.stands.stand;
      };
      pending = s.pending;
      place = live.ready.place;
    };
  }

  pub sent_moments : (result : Result (Unit {0}) Failed) → SendMoments frames result a b → HandlesAll rules (told_line outcome result) (sends_only frames outcome) node node a b
  sent_moments (Ok done) m live = record {
    each = λ image found left. sent_at image found live ((m live.ready.pending).each image found left);
    live = still_live (Ok done) live (m live.ready.pending);
  }
  sent_moments (Err fault) m live = record {
    each = λ image found left. sent_at image found live ((m live.ready.pending).each image found left);
    live = still_live (Err fault) live (m live.ready.pending);
  }
