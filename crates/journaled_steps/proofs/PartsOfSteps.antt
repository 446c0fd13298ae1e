-- What is said of a step by its parts is said of the step that has them.
use Rattle.std.proofs.Common.{◌≡◌, ℕ, List, sym, subst, Option, Result}
use Rattle.site_core.specs.Told.{Told}
use Rattle.journaled_list.specs.Rules.{Rules}
use Rattle.journaled_steps.specs.declared.faults.StepFault.{StepFault}
use Rattle.journaled_steps.specs.Node.{Node}
use Rattle.journaled_steps.specs.Steps.{Step, HandlesAll, HasRoom, NodeAfter, StepCalls, StepSends}

-- a step by its parts
abbrev pub step_of : {E X : Type 0} → Option E → List (List ℕ) → X → Step E X
step_of adds sends outcome = record { adds = adds; sends = sends; outcome = outcome }

module _ {E X : Type 0} (step : Step E X) (adds : Option E) (frames : List (List ℕ)) (outcome : X) (adding : step.adds ≡ adds) (sending : frames ≡ step.sends) (telling : outcome ≡ step.outcome) where
  pub as_step : step_of adds frames outcome ≡ step
  as_step k = record { adds = sym adding k; sends = sending k; outcome = telling k }

  pub sends_as : (result : Result X StepFault) (a b : Told) → StepSends frames result a b → StepSends step.sends result a b
  sends_as result a b out = subst (λ (l : List (List ℕ)). StepSends l result a b) sending out

  module _ {O : Type 0} (rules : Rules O E) (result : Result X StepFault) where
    pub node_as : (old new : Node O E) → NodeAfter rules result (step_of adds frames outcome) old new → NodeAfter rules result step old new
    node_as old new after = subst (λ (s : Step E X). NodeAfter rules result s old new) as_step after

    pub room_as : (tail : ℕ) → HasRoom rules result adds tail → HasRoom rules result step.adds tail
    room_as tail room = subst (λ (o : Option E). HasRoom rules result o tail) (sym adding) room

    pub calls_as : (tail : ℕ) (a b : Told) → StepCalls rules adds frames tail result a b → StepCalls rules step.adds step.sends tail result a b
    calls_as tail a b calls = subst (λ (s : Step E X). StepCalls rules s.adds s.sends tail result a b) as_step calls

    pub moments_as : (old new : Node O E) (a b : Told) → HandlesAll rules result (step_of adds frames outcome) old new a b → HandlesAll rules result step old new a b
    moments_as old new a b all = subst (λ (s : Step E X). HandlesAll rules result s old new a b) as_step all
