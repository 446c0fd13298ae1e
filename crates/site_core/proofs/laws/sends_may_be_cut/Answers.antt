use Rattle.std.proofs.Common.{inl, inr, refl}
use Rattle.site_core.proofs.laws.sends_may_be_cut.Goals as goal

pub returns-clause-out : goal.returns-clause-out
returns-clause-out c = λ frame log image left. (left, inl refl)

pub returns-clause-kept : goal.returns-clause-kept
returns-clause-kept c = λ frame log image left. (left, inr refl)

pub returns-clause-failed_out : goal.returns-clause-failed_out
returns-clause-failed_out c = λ frame later log image left. (left, inl refl)

pub returns-clause-failed_kept : goal.returns-clause-failed_kept
returns-clause-failed_kept c = λ frame later log image left. (left, inr refl)

pub returns-clause-left : goal.returns-clause-left
returns-clause-left c = λ act log t image frames le within. inr (le, inl within)
