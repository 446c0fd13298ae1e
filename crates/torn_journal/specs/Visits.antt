-- What a visitor of payloads answers.
use Rattle.std.specs.Prelude.{ℕ, List, [], ◌∷◌, ◌++◌, Result, OnOk, IsErrOf}
use Rattle.torn_journal.specs.declared.visit.VisitFault.{VisitFault}
use Rattle.torn_journal.specs.declared.visit.VisitFault.TheVariants.{Bad}

-- whatever payloads the visitor stands for: at Ok the payload follows them and is taken, and it is bad where it doesn't follow
pub record Takes (result : Result (Unit {0}) VisitFault) (follows : List (List ℕ) → List ℕ → Type 0) (old new : List (List ℕ) → Type 0) (payload : List ℕ) : Type 0 where
  pub ok : OnOk result ((payloads : List (List ℕ)) → old payloads → follows payloads payload × new (payloads ++ payload ∷ []))
  pub bad : IsErrOf result Bad → (payloads : List (List ℕ)) → old payloads → follows payloads payload → ⊥

-- each payload may follow those before it
abbrev pub FollowsFrom : (List (List ℕ) → List ℕ → Type 0) → List (List ℕ) → List (List ℕ) → Type 0
FollowsFrom follows before [] = Unit {0}
FollowsFrom follows before (p ∷ ps) = follows before p × FollowsFrom follows (before ++ p ∷ []) ps

abbrev pub AllFollow : (List (List ℕ) → List ℕ → Type 0) → List (List ℕ) → Type 0
AllFollow follows payloads = FollowsFrom follows [] payloads
