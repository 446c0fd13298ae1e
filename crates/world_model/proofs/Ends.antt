-- The world before a step and that after it lie in it.
use Rattle.std.proofs.Common.{inl, inr, refl}
use Rattle.world_events.specs.declared.acts.Event.{Event}
use Rattle.world_events.specs.declared.outcomes.Outcome.{Outcome}
use Rattle.world_model.specs.Worlds.{World}
use Rattle.world_model.specs.WorldSteps.{WorldStep}
use Rattle.world_model.specs.Moments.{LiesIn}
use Rattle.world_model.proofs.Going.{some_step}
use Rattle.world_model.proofs.Growing.{same_world, step_grows}

pub begin_lies : (w : World) (event : Event) → LiesIn w event w
begin_lies w event =
    let goes = some_step w event in
    record {
      x = goes.0;
      next = goes.1;
      step = goes.2;
      begins = same_world w;
      ends = step_grows w goes.1 event goes.0 goes.2;
      host = inl (refl, refl);
      banks = λ e. inl refl;
    }

pub end_lies : (w next : World) (event : Event) (x : Outcome) → WorldStep w event x next → LiesIn w event next
end_lies w next event x step = record {
  x = x;
  next = next;
  step = step;
  begins = step_grows w next event x step;
  ends = same_world next;
  host = inr (refl, refl);
  banks = λ e. inr refl;
}
